-- That each strategy's call follows its rule.
pub mod Rules
