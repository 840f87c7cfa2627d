-- Laws of what is put: a number's digits, and the text so far.
use Prim.Native.Nat.{ℕ, zero, suc, ◌+◌, ◌-◌, ◌*◌, ◌≤◌, ◌<◌, ◌/◌, ◌%◌}
use mathlib.Core.Path.{◌≡◌, refl, ap, ◌∙◌, sym}
use mathlib.Core.List.{List, [], ◌∷◌, ◌++◌}
use native.Mathlib.Omega.{arith}
use lib.Dec.{ltb}
use lib.ListN.{length, length-append, set, get_or, take}
use borrow.Author.Tests.{lt-ltb, le-ltb, ltb-true, ltb-false}
use lib.Seq.{set_out, take-suc, length-take-le}
use native.Mathlib.Decide.{dec_lt}
use native.Mathlib.Numerals.{add-one}
use Rattle.lists.proofs.Tests.{by-test}
use Rattle.matchday_text.specs.Text.{digits, decimal, followed, space, line_feed, line, edge_line, edge_lines, days_word, days_text, refused_word, refused_text}
use Rattle.lists.specs.Parts.{copied_over, overwrite}
use Rattle.lists.proofs.PartsLaws.{overwrite_append, overwrite_front}
use Rattle.graph.specs.Edges.{edge_count, first_end, second_end}
use Rattle.graph.specs.Colored.{color_of}
use Rattle.matchday_text.specs.Put.{Put, Room}

-- ---- laws of the decimal digits: each number's last digit follows the digits of a tenth of it

-- More places than there are digits change nothing.
places_enough : (f g x : ℕ) → x < f → x < g → digits f x ≡ digits g x
unfolding digits
places_enough zero g x h k = let z : ⊥ = omega arith in absurd z
places_enough (suc f) zero x h k = let z : ⊥ = omega arith in absurd z
places_enough (suc f) (suc g) x h k =
    by-test (ltb 9 x)
    (λ t. let b = ltb-true 9 x t in rw (t, digits) (ap (λ (l : List ℕ). l ++ ((48 + x % 10) ∷ [])) (places_enough f g (x / 10) (omega arith) (omega arith))))
    (λ t. rw (t, digits))

pub decimal_digit : (x : ℕ) → x < 10 → decimal x ≡ (48 + x) ∷ []
unfolding decimal digits
decimal_digit x h = rw (le-ltb 9 x (let b : x ≤ 9 = omega arith in b), digits)

decimal_more : (x : ℕ) → 10 ≤ x → decimal x ≡ decimal (x / 10) ++ ((48 + x % 10) ∷ [])
unfolding decimal digits
decimal_more x h = rw (lt-ltb 9 x (let b : 9 < x = omega arith in b), digits) (ap (λ (l : List ℕ). l ++ ((48 + x % 10) ∷ [])) (places_enough x (suc (x / 10)) (x / 10) (omega arith) (omega arith)))

-- One digit more for ten times the number.
tenfold : (bound places x : ℕ) → ((y : ℕ) → y < bound → length (decimal y) ≤ places) → 1 ≤ places → x < 10 * bound → length (decimal x) ≤ suc places
tenfold bound places x less one h =
    by-test (ltb 9 x)
    (λ t. let b = ltb-true 9 x t in rw (decimal_more x (omega arith), length-append (decimal (x / 10)) ((48 + x % 10) ∷ [])) (omega (arith, less (x / 10) (omega arith))))
    (λ t. let b = ltb-false 9 x t in rw (decimal_digit x (omega arith)) (omega arith))

-- A number below 100,000 has five digits at most.
pub decimal_length : (x : ℕ) → x < 100000 → length (decimal x) ≤ 5
decimal_length x h =
    tenfold 10000 4 x (λ y b. tenfold 1000 3 y (λ y b. tenfold 100 2 y (λ y b. tenfold 10 1 y one (omega arith) (omega arith)) (omega arith) (omega arith)) (omega arith) (omega arith)) (omega arith) (omega arith)
  where
    one : (y : ℕ) → y < 10 → length (decimal y) ≤ 1
    one y b = rw (decimal_digit y b) (omega arith)

-- ---- the digits say the number

-- The number that digits say, after those that said `before`.
unfoldable pub said : ℕ → List ℕ → ℕ
said before [] = before
said before (digit ∷ digits) = said (10 * before + (digit - 48)) digits

said_last : (before : ℕ) (s : List ℕ) (digit : ℕ) → said before (s ++ (digit ∷ [])) ≡ 10 * said before s + (digit - 48)
unfolding said
said_last before [] digit = refl
said_last before (d ∷ s) digit = said_last (10 * before + (d - 48)) s digit

digits_said : (fuel x : ℕ) → x < fuel → said 0 (digits fuel x) ≡ x
unfolding said digits
digits_said zero x h = let z : ⊥ = omega arith in absurd z
digits_said (suc fuel) x h =
    by-test (ltb 9 x)
    (λ t. let b = ltb-true 9 x t in rw (t, digits) (said_last 0 (digits fuel (x / 10)) (48 + x % 10) ∙ omega (arith, digits_said fuel (x / 10) (omega arith))))
    (λ t. rw (t, digits) (omega arith))

pub decimal_said : (x : ℕ) → said 0 (decimal x) ≡ x
unfolding decimal
decimal_said x = digits_said (suc x) x (omega arith)

-- Laws of the putting functions: for each one that its parts have room, and that they make up its text.

-- ---- one byte

pub put_inside : (text : List ℕ) (at b : ℕ) → Put text at (b ∷ []) (set text at b) (at + 1)
unfolding overwrite
put_inside text at b = record { text = refl; end = omega arith }

pub put_outside : (text : List ℕ) (at b : ℕ) → length text ≤ at → Put text at (b ∷ []) text (at + 1)
unfolding overwrite
put_outside text at b h = record { text = sym (set_out text at b h); end = omega arith }

-- ---- several, one after another

pub put_none : (text : List ℕ) (at : ℕ) → Put text at [] text at
unfolding overwrite
put_none text at = record { text = refl; end = omega arith }

put_then : (before : List ℕ) (at : ℕ) (s middle : List ℕ) (next : ℕ) (t after : List ℕ) (end : ℕ) → Put before at s middle next → Put middle next t after end → Put before at (s ++ t) after end
put_then before at s middle next t after end p q = record {
  text = q.text ∙ rw (p.text, p.end) (sym (overwrite_append before at s t));
  end = let e = length-append s t in omega (arith, p.end, q.end);
}

pub room_first : (at : ℕ) (s t : List ℕ) → Room at (s ++ t) → Room at s
room_first at s t r = let e = length-append s t in record { below = omega (arith, r.below) }

room_next : (before : List ℕ) (at : ℕ) (s middle : List ℕ) (next : ℕ) (t : List ℕ) → Room at (s ++ t) → Put before at s middle next → Room next t
room_next before at s middle next t r p = let e = length-append s t in record { below = omega (arith, r.below, p.end) }

-- ---- from the front

-- Put from place 0 on, the bytes stand at the front, as many as there is room for, and the answer is their number.
pub put_front_lem : (before bytes after : List ℕ) (next : ℕ) → Put before 0 bytes after next → (next ≡ length bytes) × (after ≡ copied_over bytes before)
put_front_lem before bytes after next p = (omega (arith, p.end), p.text ∙ overwrite_front before bytes)

-- ---- bytes put one by one

pub put_byte_more : (before bytes : List ℕ) (at i : ℕ) (middle : List ℕ) (next : ℕ) (after : List ℕ) (end : ℕ) → i < length bytes → Put before at (take i bytes) middle next → Put middle next (get_or bytes i 0 ∷ []) after end → Put before at (take (i + 1) bytes) after end
put_byte_more before bytes at i middle next after end h p q = rw (add-one i, take-suc bytes i 0 h) (put_then before at (take i bytes) middle next (get_or bytes i 0 ∷ []) after end p q)

pub put_byte_room : (before bytes : List ℕ) (at i b : ℕ) (middle : List ℕ) (next : ℕ) → i < length bytes → Room at bytes → Put before at (take i bytes) middle next → Room next (b ∷ [])
put_byte_room before bytes at i b middle next h r p = record { below = omega (arith, r.below, p.end, length-take-le i bytes (omega arith)) }

-- ---- the digits of a number

pub room_tenth : (at x : ℕ) → 10 ≤ x → Room at (decimal x) → Room at (decimal (x / 10))
room_tenth at x h r = room_first at (decimal (x / 10)) ((48 + x % 10) ∷ []) (rw (decimal_more x h) at r)

pub room_last : (before : List ℕ) (at x : ℕ) (middle : List ℕ) (next : ℕ) → 10 ≤ x → Room at (decimal x) → Put before at (decimal (x / 10)) middle next → Room next ((48 + x % 10) ∷ [])
room_last before at x middle next h r p = room_next before at (decimal (x / 10)) middle next ((48 + x % 10) ∷ []) (rw (decimal_more x h) at r) p

pub put_last : (before : List ℕ) (at x : ℕ) (middle : List ℕ) (next : ℕ) (after : List ℕ) (end : ℕ) → 10 ≤ x → Put before at (decimal (x / 10)) middle next → Put middle next ((48 + x % 10) ∷ []) after end → Put before at (decimal x) after end
put_last before at x middle next after end h p q = rw (decimal_more x h) (put_then before at (decimal (x / 10)) middle next ((48 + x % 10) ∷ []) after end p q)

-- ---- a number and the byte that follows it

pub number_room : (at x b : ℕ) → Room at (followed x b) → Room at (decimal x)
unfolding followed
number_room at x b r = room_first at (decimal x) (b ∷ []) r

pub number_last : (before : List ℕ) (at x b : ℕ) (middle : List ℕ) (next : ℕ) → Room at (followed x b) → Put before at (decimal x) middle next → Room next (b ∷ [])
unfolding followed
number_last before at x b middle next r p = room_next before at (decimal x) middle next (b ∷ []) r p

pub number_put : (before : List ℕ) (at x b : ℕ) (middle : List ℕ) (next : ℕ) (after : List ℕ) (end : ℕ) → Put before at (decimal x) middle next → Put middle next (b ∷ []) after end → Put before at (followed x b) after end
unfolding followed
number_put before at x b middle next after end p q = put_then before at (decimal x) middle next (b ∷ []) after end p q

-- ---- three and four texts, one after another

module _ (before : List ℕ) (at : ℕ) (s t u : List ℕ) (r : Room at (s ++ t ++ u)) where
  first_two : Room at (s ++ t)
  first_two = room_first at (s ++ t) u r

  module _ (text₁ : List ℕ) (at₁ : ℕ) (p₁ : Put before at s text₁ at₁) where
    second_room : Room at₁ t
    second_room = room_next before at s text₁ at₁ t first_two p₁

    module _ (text₂ : List ℕ) (at₂ : ℕ) (p₂ : Put text₁ at₁ t text₂ at₂) where
      two : Put before at (s ++ t) text₂ at₂
      two = put_then before at s text₁ at₁ t text₂ at₂ p₁ p₂

      third_room : Room at₂ u
      third_room = room_next before at (s ++ t) text₂ at₂ u r two

      three : (text₃ : List ℕ) (at₃ : ℕ) → Put text₂ at₂ u text₃ at₃ → Put before at (s ++ t ++ u) text₃ at₃
      three text₃ at₃ p₃ = put_then before at (s ++ t) text₂ at₂ u text₃ at₃ two p₃

-- ---- the numbers of a line

module _ (before : List ℕ) (at a b c d : ℕ) (r : Room at (line a b c d)) where
  abbrev A : List ℕ
  A = followed a space

  abbrev B : List ℕ
  B = followed b space

  abbrev C : List ℕ
  C = followed c space

  abbrev D : List ℕ
  D = followed d line_feed

  front : Room at (A ++ B ++ C)
  unfolding line
  front = room_first at (A ++ B ++ C) D r

  pub line_first : Room at A
  line_first = room_first at A B (first_two before at A B C front)

  module _ (text₁ : List ℕ) (at₁ : ℕ) (p₁ : Put before at A text₁ at₁) where
    pub line_second : Room at₁ B
    line_second = second_room before at A B C front text₁ at₁ p₁

    module _ (text₂ : List ℕ) (at₂ : ℕ) (p₂ : Put text₁ at₁ B text₂ at₂) where
      pub line_third : Room at₂ C
      line_third = third_room before at A B C front text₁ at₁ p₁ text₂ at₂ p₂

      module _ (text₃ : List ℕ) (at₃ : ℕ) (p₃ : Put text₂ at₂ C text₃ at₃) where
        front_put : Put before at (A ++ B ++ C) text₃ at₃
        front_put = three before at A B C front text₁ at₁ p₁ text₂ at₂ p₂ text₃ at₃ p₃

        pub line_fourth : Room at₃ D
        unfolding line
        line_fourth = room_next before at (A ++ B ++ C) text₃ at₃ D r front_put

        pub line_put : (text₄ : List ℕ) (at₄ : ℕ) → Put text₃ at₃ D text₄ at₄ → Put before at (line a b c d) text₄ at₄
        unfolding line
        line_put text₄ at₄ p₄ = put_then before at (A ++ B ++ C) text₃ at₃ D text₄ at₄ front_put p₄

-- ---- the two texts

module _ (before : List ℕ) (number : ℕ) (r : Room 0 (refused_text number)) where
  pub refused_word_lem : Room 0 refused_word
  unfolding refused_text
  refused_word_lem = room_first 0 refused_word (followed number line_feed) r

  module _ (text₁ : List ℕ) (at₁ : ℕ) (p₁ : Put before 0 refused_word text₁ at₁) where
    pub refused_number : Room at₁ (followed number line_feed)
    unfolding refused_text
    refused_number = room_next before 0 refused_word text₁ at₁ (followed number line_feed) r p₁

    pub refused_put : (text₂ : List ℕ) (at₂ : ℕ) → Put text₁ at₁ (followed number line_feed) text₂ at₂ → Put before 0 (refused_text number) text₂ at₂
    unfolding refused_text
    refused_put text₂ at₂ p₂ = put_then before 0 refused_word text₁ at₁ (followed number line_feed) text₂ at₂ p₁ p₂

module _ (before : List ℕ) (days : ℕ) (ends colors : List ℕ) (r : Room 0 (days_text days ends colors)) where
  abbrev N : List ℕ
  N = followed days line_feed

  abbrev L : List ℕ
  L = edge_lines ends colors (edge_count ends)

  pub days_word_lem : Room 0 days_word
  unfolding days_text
  days_word_lem = room_first 0 days_word N (first_two before 0 days_word N L r)

  module _ (text₁ : List ℕ) (at₁ : ℕ) (p₁ : Put before 0 days_word text₁ at₁) where
    pub days_number : Room at₁ N
    unfolding days_text
    days_number = second_room before 0 days_word N L r text₁ at₁ p₁

    module _ (text₂ : List ℕ) (at₂ : ℕ) (p₂ : Put text₁ at₁ N text₂ at₂) where
      pub days_lines : Room at₂ L
      unfolding days_text
      days_lines = third_room before 0 days_word N L r text₁ at₁ p₁ text₂ at₂ p₂

      pub days_put : (text₃ : List ℕ) (at₃ : ℕ) → Put text₂ at₂ L text₃ at₃ → Put before 0 (days_text days ends colors) text₃ at₃
      unfolding days_text
      days_put text₃ at₃ p₃ = three before 0 days_word N L r text₁ at₁ p₁ text₂ at₂ p₂ text₃ at₃ p₃

-- ---- the numbers of an edge

module _ (ends colors : List ℕ) (k a b c : ℕ) where
  edge_line_lem : a ≡ get_or ends (2 * k) 0 → b ≡ get_or ends (2 * k + 1) 0 → c ≡ color_of colors k → edge_line ends colors k ≡ line k a b c
  unfolding edge_line first_end second_end
  edge_line_lem p q r = rw (p, q, r)

pub edge_room : (ends colors : List ℕ) (k a b c at : ℕ) → a ≡ get_or ends (2 * k) 0 → b ≡ get_or ends (2 * k + 1) 0 → c ≡ color_of colors k → Room at (edge_line ends colors k) → Room at (line k a b c)
edge_room ends colors k a b c at p q r room = rw (edge_line_lem ends colors k a b c p q r) at room

pub edge_put : (ends colors : List ℕ) (k a b c : ℕ) (before : List ℕ) (at : ℕ) (after : List ℕ) (end : ℕ) → a ≡ get_or ends (2 * k) 0 → b ≡ get_or ends (2 * k + 1) 0 → c ≡ color_of colors k → Put before at (line k a b c) after end → Put before at (edge_line ends colors k) after end
edge_put ends colors k a b c before at after end p q r put = rw (edge_line_lem ends colors k a b c p q r) put

-- ---- lines put one by one

module _ (ends colors : List ℕ) where
  lines_rise : (k m : ℕ) → k < m → length (edge_lines ends colors k) + length (edge_line ends colors k) ≤ length (edge_lines ends colors m)
  unfolding edge_lines
  lines_rise k zero h = let z : ⊥ = omega arith in absurd z
  lines_rise k (suc m) h =
      let e = length-append (edge_lines ends colors m) (edge_line ends colors m) in
      elim (dec_lt k m) [
        | yes b ↦ omega (arith, lines_rise k m b)
        | no b ↦ let q : k ≡ m = omega arith in rw q (omega arith)
      ]

  pub line_none : (text : List ℕ) (at : ℕ) → Put text at (edge_lines ends colors 0) text at
  unfolding edge_lines
  line_none text at = put_none text at

  pub line_room : (before : List ℕ) (at k m : ℕ) (middle : List ℕ) (next : ℕ) → k < m → Room at (edge_lines ends colors m) → Put before at (edge_lines ends colors k) middle next → Room next (edge_line ends colors k)
  line_room before at k m middle next h r p = record { below = omega (arith, r.below, p.end, lines_rise k m h) }

  pub line_more : (before : List ℕ) (at k : ℕ) (middle : List ℕ) (next : ℕ) (after : List ℕ) (end : ℕ) → Put before at (edge_lines ends colors k) middle next → Put middle next (edge_line ends colors k) after end → Put before at (edge_lines ends colors (k + 1)) after end
  unfolding edge_lines
  line_more before at k middle next after end p q = rw (add-one k) (put_then before at (edge_lines ends colors k) middle next (edge_line ends colors k) after end p q)
