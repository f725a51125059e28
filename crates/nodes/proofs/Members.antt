-- The walk over members that looks for a name. Assumes nothing.
use Prim.Native.Nat.{ℕ, ◌+◌, ◌/◌, ◌%◌, ◌≤◌, ◌<◌}
use mathlib.Core.Path.{◌≡◌, refl, sym, ap, ◌∙◌, subst}
use mathlib.Core.Bool.{Bool, true, false, ◌||◌}
use mathlib.Core.List.{List}
use native.Mathlib.Omega.{arith}
use lib.ListN.{length, take, get_or}
use Rattle.definitions.specs.Bytes.{Bytes, same}
use Rattle.definitions.specs.Value.{Members, has_name}
use Rattle.pool.specs.Pool.{text_in}
use Rattle.nodes.specs.Nodes.{row_size}
use Rattle.nodes.specs.Standing.{MembersStand, FirstMember, MembersHeld}
use Rattle.nodes.specs.StandingLaws.{size_some, value_name, value_size, value_within, first_member, no_member_left, text_referred, referred_whole}

-- the text of a reference
abbrev pub text_of : List ℕ → ℕ → Bytes
text_of pool k = text_in pool (k % 65536) (k / 65536)

-- the row of the first member is there
pub member_step
    : {nodes p : List ℕ} {i end : ℕ} {ms : Members} → MembersStand nodes p i end ms → i < end
    → (3 ≤ row_size nodes i) × (i + row_size nodes i ≤ length nodes) × (i + row_size nodes i ≤ end)
member_step s more =
    let f = first_member s more in (
      omega (arith, value_size f.stands, size_some f.value),
      omega (arith, value_size f.stands, value_within f.stands),
      omega (arith, f.more.reaches),
    )

module _ (nodes pool : List ℕ) (at end name : ℕ) where
  -- what is left of the members at row i, where the name was not found before
  pub record Left (i : ℕ) (p : List ℕ) (ms : Members) : Type 0 where
    pub others : Members
    pub stand : MembersStand nodes p i end others
    pub found : has_name (text_of pool name) ms ≡ has_name (text_of pool name) others

  pub record Walking (i : ℕ) : Type 0 where
    pub left
        : (p : List ℕ) (ms : Members) → take (length p) pool ≡ p → length p < 65536 → MembersStand nodes p at end ms → Left i p ms

  pub walk_begins : Walking at
  walk_begins = record { left = λ p ms front small s. record { others = ms; stand = s; found = refl } }

  module _ {i : ℕ} (w : Walking i) where
    -- the row of the next member is there
    pub walk_step
        : MembersHeld nodes pool at end → i < end
        → (3 ≤ row_size nodes i) × (i + row_size nodes i ≤ length nodes) × (i + row_size nodes i ≤ end)
    walk_step h more = member_step (w.left h.used h.members h.front h.small h.stand).stand more

    -- the pool has its name whole
    pub walk_whole
        : MembersHeld nodes pool at end → i < end → {k : ℕ} → k ≡ get_or nodes (i + 2) 0 → length (text_of pool k) ≡ k / 65536
    walk_whole h more e =
        let l = w.left h.used h.members h.front h.small h.stand in
        let f = first_member l.stand more in
        subst (λ (x : ℕ). length (text_of pool x) ≡ x / 65536) (sym (e ∙ value_name f.stands)) (referred_whole pool h.front h.small f.refers)

    module _ {k : ℕ} {b : Bool} (named : k ≡ get_or nodes (i + 2) 0) (told : b ≡ same (text_of pool name) (text_of pool k)) where
      compared
          : {p : List ℕ} {ms : Members} → take (length p) pool ≡ p → length p < 65536 → (f : FirstMember nodes p i end ms)
          → b ≡ same (text_of pool name) f.name
      compared front small f =
          told
          ∙ ap (λ (x : ℕ). same (text_of pool name) (text_of pool x)) (named ∙ value_name f.stands)
          ∙ ap (λ (t : Bytes). same (text_of pool name) t) (text_referred pool front small f.refers)

      pub walk_found
          : i < end → b ≡ true → (p : List ℕ) (ms : Members) → take (length p) pool ≡ p → length p < 65536
          → MembersStand nodes p at end ms → true ≡ has_name (text_of pool name) ms
      unfolding has_name
      walk_found more t p ms front small s =
          let l = w.left p ms front small s in
          let f = first_member l.stand more in
          sym
          (l.found
          ∙ ap (has_name (text_of pool name)) f.same
          ∙ ap (λ (y : Bool). y || has_name (text_of pool name) f.others) (sym (compared front small f) ∙ t))

      pub walk_on : {n : ℕ} → i < end → b ≡ false → n ≡ row_size nodes i → Walking (i + n)
      unfolding has_name
      walk_on more t e =
          subst (λ (n : ℕ). Walking (i + n)) (sym e)
          (record {
            left = λ p ms front small s.
                let l = w.left p ms front small s in
                let f = first_member l.stand more in
                record {
                  others = f.others;
                  stand = f.more;
                  found =
                      l.found
                      ∙ ap (has_name (text_of pool name)) f.same
                      ∙ ap (λ (y : Bool). y || has_name (text_of pool name) f.others) (sym (compared front small f) ∙ t);
                };
          })

    pub walk_ends
        : end ≤ i → (p : List ℕ) (ms : Members) → take (length p) pool ≡ p → length p < 65536 → MembersStand nodes p at end ms
        → false ≡ has_name (text_of pool name) ms
    unfolding has_name
    walk_ends past p ms front small s =
        let l = w.left p ms front small s in
        sym (l.found ∙ ap (has_name (text_of pool name)) (no_member_left l.stand past))
