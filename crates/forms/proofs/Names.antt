-- The walk over a pack's results that looks for a name. Assumes nothing.
use Prim.Native.Nat.{ℕ, ◌+◌, ◌/◌, ◌%◌, ◌≤◌, ◌<◌}
use mathlib.Core.Path.{◌≡◌, refl, sym, ap, ap₂, ◌∙◌, subst}
use mathlib.Core.Bool.{Bool, true, false, ◌||◌}
use mathlib.Core.List.{List}
use native.Mathlib.Omega.{arith}
use lib.ListN.{length, take, get_or}
use Rattle.definitions.specs.Bytes.{same}
use Rattle.definitions.specs.Reader.{Pairs, among_pairs}
use Rattle.pool.specs.Pool.{text_in}
use Rattle.nodes.specs.StandingLaws.{text_referred}
use Rattle.forms.specs.Forms.{PairsStand, PairsHeld, size_at}
use Rattle.forms.specs.FormsLaws.{forms_some, stands_size, stands_name, stands_within}
use Rattle.forms.specs.PartsLaws.{FirstPair, first_pair, no_pair_left, pairs_end}

module _ (forms pool : List ℕ) (from end w n : ℕ) where
  -- what is left of the pairs at row i, where the name was not found before
  pub record Left (i : ℕ) (p : List ℕ) (d : ℕ) (ps : Pairs) : Type 0 where
    pub others : Pairs
    pub stand : PairsStand forms p i end d others
    pub found : among_pairs (text_in pool w n) ps ≡ among_pairs (text_in pool w n) others

  pub record Walking (i : ℕ) : Type 0 where
    pub left
        : (p : List ℕ) (d : ℕ) (ps : Pairs) → take (length p) pool ≡ p → length p < 65536 → PairsStand forms p from end d ps
        → Left i p d ps

  pub walk_begins : Walking from
  walk_begins = record { left = λ p d ps front small s. record { others = ps; stand = s; found = refl } }

  module _ {i : ℕ} (x : Walking i) where
    -- the row of the next result is there
    pub walk_step
        : PairsHeld forms pool from end → i < end
        → (3 ≤ size_at forms i) × (i + size_at forms i ≤ length forms) × (i + size_at forms i ≤ end)
    walk_step h more =
        let l = x.left h.used h.bound h.pairs h.front h.small h.stand in
        let f = first_pair l.stand more in (
          omega (arith, stands_size f.stands, forms_some f.result),
          omega (arith, stands_size f.stands, stands_within f.stands),
          omega (arith, pairs_end f.more),
        )

    module _
        {k v m : ℕ} {b : Bool} (named : k ≡ get_or forms (i + 2) 0) (word : v ≡ k % 65536) (bytes : m ≡ k / 65536)
        (told : b ≡ same (text_in pool w n) (text_in pool v m)) where
      compared
          : {p : List ℕ} {d : ℕ} {ps : Pairs} → take (length p) pool ≡ p → length p < 65536 → (f : FirstPair forms p i end d ps)
          → b ≡ same (text_in pool w n) f.name
      compared front small f =
          told
          ∙ ap (same (text_in pool w n))
          (ap₂ (text_in pool) word bytes
          ∙ ap (λ (y : ℕ). text_in pool (y % 65536) (y / 65536)) (named ∙ stands_name f.stands)
          ∙ text_referred pool front small f.refers)

      pub walk_found
          : i < end → b ≡ true → (p : List ℕ) (d : ℕ) (ps : Pairs) → take (length p) pool ≡ p → length p < 65536
          → PairsStand forms p from end d ps → true ≡ among_pairs (text_in pool w n) ps
      unfolding among_pairs
      walk_found more t p d ps front small s =
          let l = x.left p d ps front small s in
          let f = first_pair l.stand more in
          sym
          (l.found
          ∙ ap (among_pairs (text_in pool w n)) f.same
          ∙ ap (λ (y : Bool). y || among_pairs (text_in pool w n) f.others) (sym (compared front small f) ∙ t))

      pub walk_on : {e : ℕ} → i < end → b ≡ false → e ≡ size_at forms i → Walking (i + e)
      unfolding among_pairs
      walk_on more t same_size =
          subst (λ (e : ℕ). Walking (i + e)) (sym same_size)
          (record {
            left = λ p d ps front small s.
                let l = x.left p d ps front small s in
                let f = first_pair l.stand more in
                record {
                  others = f.others;
                  stand = f.more;
                  found =
                      l.found
                      ∙ ap (among_pairs (text_in pool w n)) f.same
                      ∙ ap (λ (y : Bool). y || among_pairs (text_in pool w n) f.others) (sym (compared front small f) ∙ t);
                };
          })

    pub walk_ends
        : end ≤ i → (p : List ℕ) (d : ℕ) (ps : Pairs) → take (length p) pool ≡ p → length p < 65536
        → PairsStand forms p from end d ps → false ≡ among_pairs (text_in pool w n) ps
    unfolding among_pairs
    walk_ends past p d ps front small s =
        let l = x.left p d ps front small s in
        sym (l.found ∙ ap (among_pairs (text_in pool w n)) (no_pair_left l.stand past))
