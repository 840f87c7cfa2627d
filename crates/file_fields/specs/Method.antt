-- The byte of a method.
use Rattle.std.specs.Prelude.{ℕ, ◌≡◌, ◌<◌, Option, Some, None, Result, MatchResult}
use Rattle.graph.specs.declared.Refusal.{Refusal}
use Rattle.graph.specs.declared.Refusal.TheVariants.{BadFile}
use Rattle.file_layout.specs.File.{unnamed}
use Rattle.file_fields.specs.declared.method.Method.{Method}
use Rattle.file_fields.specs.declared.method.Method.TheVariants.{Degree, Saturation, IndependentSet, MisraGries}

-- "tag 4, length 1, how it was coloured: 0 Degree, 1 Saturation, 2 IndependentSet, 3 Misra-Gries"
abbrev pub byte_of : Method → ℕ
byte_of Degree = 0
byte_of Saturation = 1
byte_of IndependentSet = 2
byte_of MisraGries = 3

-- What is reported of a method, where there is one.
abbrev pub method_byte : Option Method → ℕ
method_byte (Some method) = byte_of method
method_byte None = unnamed

-- The method of this byte; 10 for "a tag 4 byte above 3".
abbrev pub NamedBy : ℕ → Result Method Refusal → Type 0
NamedBy byte r = MatchResult r (λ method. byte ≡ byte_of method) (λ refusal. (refusal ≡ BadFile) × (3 < byte))
