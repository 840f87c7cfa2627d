-- The colours by independent sets are greedy: what holds round by round.
use Prim.Native.Nat.{ℕ, zero, suc, ◌+◌, ◌≤◌, ◌<◌}
use mathlib.Core.List.{List, [], ◌∷◌}
use mathlib.Core.Logic.{◌⊎◌, inl, inr, ◌≢◌}
use mathlib.Core.Path.{◌≡◌, refl, sym, ap, subst, ◌∙◌}
use native.Mathlib.Omega.{arith}
use lib.ListN.{length, set, length-set}
use Rattle.lists.proofs.Tests.{dec_eq}
use Rattle.lists.specs.Member.{Mem, Nodup}
use Rattle.lists.proofs.MemberLaws.{mem_get_or, cover_bound}
use Rattle.graph.specs.Color.{no_color}
use Rattle.graph.specs.Colored.{color_of}
use Rattle.graph.proofs.ColorLaws.{color_set_same, color_set_other}
use Rattle.greedy.specs.Turn.{uncolored}
use Rattle.greedy.proofs.TurnLaws.{uncolored_member, member_uncolored, uncolored_nodup}
use Rattle.greedy.specs.IndependentSet.{take_out, Lists, put_off_all, Round, put_off_presets, color_listed, round, rounds, independent_set_colors}
use Rattle.greedy.specs.Greedy.{Neighborhood, Greedy}
use Rattle.independent_set.proofs.RoundsLaws.{take_out_length, put_off_length, color_front, color_empty, list_empty}
use Rattle.independent_set.proofs.ListLaws.{left_member, member_left, left_nodup, Tidy, Moved, put_off_all_moved, ByPreset, put_off_presets_moved}

-- Another neighbour of v has colour c.
abbrev Support : (ℕ → List ℕ) → List ℕ → ℕ → ℕ → Type 0
Support nb colors v c = (w : ℕ) × Mem w (nb v) × (w ≢ v) × (color_of colors w ≡ c)

-- What holds of the colours: those given are below `bound`, and each colour below r that an item does not have, or not yet, stands on another of its neighbours.
record Colored (nb : ℕ → List ℕ) (n : ℕ) (presets : List ℕ) (bound r : ℕ) (colors : List ℕ) : Type 0 where
  pub size : length colors ≡ n
  pub kept : (v : ℕ) → color_of presets v ≢ no_color → color_of colors v ≡ color_of presets v
  pub given : (v : ℕ) → v < n → color_of presets v ≡ no_color → color_of colors v ≢ no_color → color_of colors v < bound
  pub apart : (v w : ℕ) → v < n → Mem w (nb v) → w ≢ v → color_of presets v ≡ no_color → color_of colors v ≢ no_color → color_of colors v ≢ color_of colors w
  pub supported : (v : ℕ) → v < n → color_of presets v ≡ no_color → (c : ℕ) → c < r → c < color_of colors v → Support nb colors v c

-- Between rounds: the list has the items without a colour, each once.
record Between (nb : ℕ → List ℕ) (n : ℕ) (presets : List ℕ) (r : ℕ) (listed colors : List ℕ) : Type 0 where
  pub colored : Colored nb n presets r r colors
  pub once : Nodup listed
  pub waits : (v : ℕ) → Mem v listed → (v < n) × (color_of colors v ≡ no_color)
  pub has : (v : ℕ) → v < n → color_of colors v ≡ no_color → Mem v listed

-- In the round of colour r: the two lists have these items, who is put off has a neighbour of colour r, and who is listed has none.
record Within (nb : ℕ → List ℕ) (n : ℕ) (presets : List ℕ) (r : ℕ) (s : Lists) (colors : List ℕ) : Type 0 where
  pub colored : Colored nb n presets (suc r) r colors
  pub tidy : Tidy s
  pub waits : (v : ℕ) → Mem v s.listed ⊎ Mem v s.next → (v < n) × (color_of colors v ≡ no_color)
  pub has : (v : ℕ) → v < n → color_of colors v ≡ no_color → Mem v s.listed ⊎ Mem v s.next
  pub off : (v : ℕ) → Mem v s.next → Support nb colors v r
  pub free : (v w : ℕ) → Mem v s.listed → Mem w (nb v) → w ≢ v → color_of colors w ≢ r

module _ (nb : ℕ → List ℕ) (n : ℕ) (hood : Neighborhood nb n) (presets : List ℕ) where
  -- An item without a colour has no preset.
  no_preset : (bound r : ℕ) (colors : List ℕ) → Colored nb n presets bound r colors → (v : ℕ) → color_of colors v ≡ no_color → color_of presets v ≡ no_color
  no_preset bound r colors k v e = elim (dec_eq (color_of presets v) no_color) [ inl p ↦ p | inr d ↦ absurd (d (sym (k.kept v d) ∙ e)) ]

  -- ---- a round begins

  round_begins : (r : ℕ) (listed colors : List ℕ) → r < n → Between nb n presets r listed colors → Within nb n presets r (put_off_presets nb presets r n (record { listed = listed; next = [] })) colors
  round_begins r listed colors h b = record {
    colored = record {
      size = b.colored.size;
      kept = b.colored.kept;
      given = λ v k e d. omega (arith, b.colored.given v k e d);
      apart = b.colored.apart;
      supported = b.colored.supported;
    };
    tidy = m.tidy;
    waits = λ v p. b.waits v (was v p);
    has = λ v k e. m.all v (inl (b.has v k e));
    off = λ v p. elim (m.moved v p) [
      | inl z ↦ absurd z
      | inr (q, (w, k, e, a)) ↦
          let none = no_preset r r colors b.colored v (b.waits v q).1 in
          (w, hood.symmetric w v k a, λ z. omega (arith, ap (color_of presets) z, hood.items), b.colored.kept w (λ z. omega (arith, hood.items)) ∙ e)
    ];
    free = λ v w p q d e.
        let y = m.stays v p in
        let inside = (b.waits v y.0).0 in
        let k = hood.inside v w inside q in
        elim (dec_eq (color_of presets w) no_color) [
          | inl none ↦ omega (arith, b.colored.given w k none (λ z. omega (arith, hood.items)))
          | inr c ↦ y.1 (w, k, sym (b.colored.kept w c) ∙ e, hood.symmetric v w inside q)
        ];
  }
    where
      m : Moved (record { listed = listed; next = [] }) (put_off_presets nb presets r n (record { listed = listed; next = [] })) (ByPreset nb presets r n)
      m = put_off_presets_moved nb presets r n (record { listed = listed; next = [] }) (record { listed = b.once; next = tt; apart = λ v p q. q })

      was : (v : ℕ) → Mem v (put_off_presets nb presets r n (record { listed = listed; next = [] })).listed ⊎ Mem v (put_off_presets nb presets r n (record { listed = listed; next = [] })).next → Mem v listed
      was v (inl p) = (m.stays v p).0
      was v (inr p) = elim (m.moved v p) [ inl z ↦ absurd z | inr (q, _) ↦ q ]

  -- ---- a turn

  module _ (r : ℕ) (s : Lists) (colors : List ℕ) (h : r < n) (i : Within nb n presets r s colors) (v : ℕ) (m : Mem v s.listed) where
    -- The lists without v.
    abbrev out : Lists
    out = record { listed = take_out v s.listed; next = s.next }

    inside : v < n
    inside = (i.waits v (inl m)).0

    none : color_of colors v ≡ no_color
    none = (i.waits v (inl m)).1

    here : color_of (set colors v r) v ≡ r
    here = color_set_same colors v r (omega (arith, inside, i.colored.size))

    other : (u : ℕ) → u ≢ v → color_of (set colors v r) u ≡ color_of colors u
    other u d = color_set_other colors v r u d

    -- An item that has a colour is not the one whose turn it is.
    not_turn : (u c : ℕ) → color_of colors u ≡ c → c ≤ r → u ≢ v
    not_turn u c e b q = omega (arith, ap (color_of colors) q, none, hood.items)

    left : (u : ℕ) → Mem u (take_out v s.listed) → Mem u s.listed × (u ≢ v)
    left = left_member v s.listed i.tidy.listed m

    moved : Moved out (put_off_all out (nb v)) (λ u. Mem u (nb v))
    moved = put_off_all_moved out (nb v) (record { listed = left_nodup v s.listed i.tidy.listed m; next = i.tidy.next; apart = λ u p q. i.tidy.apart u (left u p).0 q })

    was : (u : ℕ) → Mem u (put_off_all out (nb v)).listed ⊎ Mem u (put_off_all out (nb v)).next → (Mem u s.listed ⊎ Mem u s.next) × (u ≢ v)
    was u (inl p) = let y = left u (moved.stays u p).0 in (inl y.0, y.1)
    was u (inr p) = elim (moved.moved u p) [
      | inl x ↦ (inr x, λ q. i.tidy.apart v m (subst (λ (k : ℕ). Mem k s.next) q x))
      | inr (x, _) ↦ let y = left u x in (inl y.0, y.1)
    ]

    support_stays : (u c : ℕ) → c ≤ r → Support nb colors u c → Support nb (set colors v r) u c
    support_stays u c b (w, q, d, e) = (w, q, d, other w (not_turn w c e b) ∙ e)

    turn_colored : Colored nb n presets (suc r) r (set colors v r)
    turn_colored = record {
      size = length-set colors v r ∙ i.colored.size;
      kept = λ u d. elim (dec_eq u v) [
        | inl e ↦ absurd (d (sym (i.colored.kept u d) ∙ (ap (color_of colors) e ∙ none)))
        | inr e ↦ other u e ∙ i.colored.kept u d
      ];
      given = λ u k e d. elim (dec_eq u v) [
        | inl q ↦ omega (arith, ap (color_of (set colors v r)) q, here)
        | inr q ↦ rw (other u q) (i.colored.given u k e (λ z. d (other u q ∙ z)))
      ];
      apart = λ u w k q d e c same. elim (dec_eq u v) [
        | inl x ↦ i.free v w m (subst (λ (y : ℕ). Mem w (nb y)) x q) (λ y. d (y ∙ sym x)) (sym (other w (λ y. d (y ∙ sym x))) ∙ (sym same ∙ (ap (color_of (set colors v r)) x ∙ here)))
        | inr x ↦ elim (dec_eq w v) [
          | inl y ↦ i.free v u m (subst (λ (z : ℕ). Mem u (nb z)) y (hood.symmetric u w k q)) x (sym (other u x) ∙ (same ∙ (ap (color_of (set colors v r)) y ∙ here)))
          | inr y ↦ i.colored.apart u w k q d e (λ z. c (other u x ∙ z)) (sym (other u x) ∙ (same ∙ other w y))
        ]
      ];
      supported = λ u k e c b less. support_stays u c (omega arith) (i.colored.supported u k e c b (elim (dec_eq u v) [
        | inl x ↦ omega (arith, ap (color_of colors) x, none, hood.items)
        | inr x ↦ rw (other u x) at less
      ]));
    }

    turn_within : Within nb n presets r (put_off_all out (nb v)) (set colors v r)
    turn_within = record {
      colored = turn_colored;
      tidy = moved.tidy;
      waits = λ u p. let y = was u p in let z = i.waits u y.0 in (z.0, other u y.1 ∙ z.1);
      has = λ u k e.
          let d : u ≢ v = λ q. omega (arith, ap (color_of (set colors v r)) q, here, hood.items) in
          moved.all u (elim (i.has u k (sym (other u d) ∙ e)) [ inl x ↦ inl (member_left v s.listed i.tidy.listed m u x d) | inr x ↦ inr x ]);
      off = λ u p. elim (moved.moved u p) [
        | inl x ↦ support_stays u r (omega arith) (i.off u x)
        | inr (x, q) ↦ (v, hood.symmetric v u inside q, λ z. (left u x).1 (sym z), here)
      ];
      free = λ u w p q d e.
          let y = moved.stays u p in
          let z = left u y.0 in
          elim (dec_eq w v) [
            | inl x ↦ y.1 (subst (λ (k : ℕ). Mem u (nb k)) x (hood.symmetric u w (i.waits u (inl z.0)).0 q))
            | inr x ↦ i.free u w z.0 q d (sym (other w x) ∙ e)
          ];
    }

  -- ---- a round ends

  round_ends : (r : ℕ) (s : Lists) (colors : List ℕ) → Within nb n presets r s colors → s.listed ≡ [] → Between nb n presets (suc r) s.next colors
  round_ends r s colors i e = record {
    colored = record {
      size = i.colored.size;
      kept = i.colored.kept;
      given = i.colored.given;
      apart = i.colored.apart;
      supported = λ v h none c b less. elim (dec_eq c r) [
        | inl q ↦ subst (Support nb colors v) (sym q) (i.off v (next v h (elim (dec_eq (color_of colors v) no_color) [ inl x ↦ x | inr d ↦ absurd (omega (arith, i.colored.given v h none d)) ])))
        | inr d ↦ i.colored.supported v h none c (omega arith) less
      ];
    };
    once = i.tidy.next;
    waits = λ v p. i.waits v (inr p);
    has = next;
  }
    where
      next : (v : ℕ) → v < n → color_of colors v ≡ no_color → Mem v s.next
      next v h x = elim (i.has v h x) [ inl p ↦ absurd (subst (Mem v) e p) | inr p ↦ p ]

  -- What a round leaves is as it must be between rounds.
  abbrev Ended : ℕ → Round → Type 0
  Ended r after = Between nb n presets (suc r) after.next after.colors

  turns_end : (r turns : ℕ) (s : Lists) (colors : List ℕ) → r < n → length s.listed ≤ turns → Within nb n presets r s colors → Ended r (color_listed nb r turns s colors)
  turns_end r zero s colors h b i =
      let e = list_empty s.listed b in
      subst (Ended r) (sym (color_empty nb r 0 s.listed s.next colors e)) (round_ends r s colors i e)
  turns_end r (suc turns) s colors h b i = go (λ t c. turns_end r turns t c h) s.listed refl
    where
      go : ((t : Lists) (c : List ℕ) → length t.listed ≤ turns → Within nb n presets r t c → Ended r (color_listed nb r turns t c)) → (l : List ℕ) → s.listed ≡ l → Ended r (color_listed nb r (suc turns) s colors)
      go rec [] e = subst (Ended r) (sym (color_empty nb r (suc turns) s.listed s.next colors e)) (round_ends r s colors i e)
      go rec (v ∷ vs) e =
          let out : Lists = record { listed = take_out v s.listed; next = s.next } in
          let m : Mem v s.listed = rw e (inl refl) in
          subst (Ended r) (sym (color_front nb r turns s.listed vs s.next colors v e))
          (rec (put_off_all out (nb v)) (set colors v r) (omega (arith, put_off_length out (nb v), take_out_length v s.listed, ap length e)) (turn_within r s colors h i v m))

  -- ---- all rounds

  rounds_end : (more r : ℕ) (listed colors : List ℕ) → r + more ≡ n → Between nb n presets r listed colors → (left : List ℕ) × Between nb n presets n left (rounds nb n presets more r listed colors)
  unfolding rounds round
  rounds_end zero r listed colors e b = (listed, let q : r ≡ n = omega arith in subst (λ (x : ℕ). Between nb n presets x listed colors) q b)
  rounds_end (suc more) r listed colors e b =
      let s = put_off_presets nb presets r n (record { listed = listed; next = [] }) in
      rounds_end more (suc r) (round nb n presets r listed colors).next (round nb n presets r listed colors).colors (omega arith) (turns_end r (length s.listed) s colors (omega arith) (omega arith) (round_begins r listed colors (omega arith) b))

  -- Each round colours an item or uses up a preset: after n rounds, an item without a colour would have neighbours of n colours, and with it there would be more than n items.
  all_colored_lem : (left colors : List ℕ) → Between nb n presets n left colors → (v : ℕ) → v < n → color_of colors v ≢ no_color
  unfolding color_of
  all_colored_lem left colors b v h none =
      omega (
        arith,
        length-set colors v n,
        b.colored.size,
        cover_bound (suc n) (set colors v n) (λ c k. elim (dec_eq c n) [
          | inl e ↦ subst (λ (x : ℕ). Mem x (set colors v n)) (color_set_same colors v n (omega (arith, b.colored.size)) ∙ sym e) (mem_get_or (set colors v n) v no_color (omega (arith, length-set colors v n, b.colored.size)))
          | inr d ↦
              let w = b.colored.supported v h (no_preset n n colors b.colored v none) c (omega arith) (omega (arith, hood.items)) in
              let i = hood.inside v w.0 h w.1 in
              subst (λ (x : ℕ). Mem x (set colors v n)) (color_set_other colors v n w.0 w.2 ∙ w.3) (mem_get_or (set colors v n) w.0 no_color (omega (arith, length-set colors v n, b.colored.size)))
        ]),
      )

  begins : length presets ≡ n → Between nb n presets 0 (uncolored presets n) presets
  begins l = record {
    colored = record {
      size = l;
      kept = λ v d. refl;
      given = λ v h e d. absurd (d e);
      apart = λ v w h q d e c. absurd (c e);
      supported = λ v h e c b. absurd (omega arith);
    };
    once = uncolored_nodup presets n;
    waits = uncolored_member presets n;
    has = member_uncolored presets n;
  }

  ends_greedy : (left colors : List ℕ) → Between nb n presets n left colors → Greedy nb n presets colors
  ends_greedy left colors b = record {
    size = b.colored.size;
    colored = all_colored_lem left colors b;
    kept = λ v h d. b.colored.kept v d;
    apart = λ v w h q d p e. elim p [
      | inl x ↦ b.colored.apart v w h q d x (all_colored_lem left colors b v h) e
      | inr x ↦ let k = hood.inside v w h q in b.colored.apart w v k (hood.symmetric v w h q) (λ z. d (sym z)) x (all_colored_lem left colors b w k) (sym e)
    ];
    supported = λ v h e c less. b.colored.supported v h e c (omega (arith, b.colored.given v h e (all_colored_lem left colors b v h))) less;
  }

-- Colours by independent sets are greedy.
pub independent_set_greedy : (nb : ℕ → List ℕ) (n : ℕ) (presets : List ℕ) → Neighborhood nb n → length presets ≡ n → Greedy nb n presets (independent_set_colors nb n presets)
unfolding independent_set_colors
independent_set_greedy nb n presets hood l =
    let r = rounds_end nb n hood presets n 0 (uncolored presets n) presets (omega arith) (begins nb n hood presets l) in
    ends_greedy nb n hood presets r.0 (rounds nb n presets n 0 (uncolored presets n) presets) r.1
