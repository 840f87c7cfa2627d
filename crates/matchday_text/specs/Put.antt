-- Bytes put into a slice one after another, as far as it has room.
use Rattle.std.specs.Prelude.{ℕ, ◌+◌, ◌≤◌, ◌≡◌, List, length}
use Rattle.lists.specs.Parts.{overwrite}

-- `bytes` were put from place `at` on: what the slice holds then, and the place after them.
pub record Put (before : List ℕ) (at : ℕ) (bytes after : List ℕ) (next : ℕ) : Type 0 where
  pub text : after ≡ overwrite before at bytes
  pub end : next ≡ at + length bytes

-- The places of these bytes are small enough for the code to count them.
pub record Room (at : ℕ) (bytes : List ℕ) : Type 0 where
  pub below : at + length bytes ≤ 1000000
