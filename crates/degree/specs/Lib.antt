-- Strategy Degree: the order by falling degree, made by counting, and the colouring in that order.
pub mod Color
pub mod Order
