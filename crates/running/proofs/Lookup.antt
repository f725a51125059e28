-- The walk over a record's members that looks for a name. Assumes nothing.
use Prim.Native.Nat.{ℕ, ◌+◌, ◌/◌, ◌%◌, ◌≤◌, ◌<◌}
use mathlib.Core.Path.{◌≡◌, refl, sym, ap, ◌∙◌, subst}
use mathlib.Core.Bool.{Bool, true, false}
use mathlib.Core.List.{List}
use native.Mathlib.Omega.{arith}
use lib.ListN.{length, get_or}
use Rattle.definitions.specs.Bytes.{Bytes, same}
use Rattle.definitions.specs.Value.{Value, Members}
use Rattle.definitions.specs.Running.{member_of}
use Rattle.pool.specs.Pool.{text_in}
use Rattle.nodes.specs.Nodes.{Refers, row_size}
use Rattle.nodes.specs.Standing.{MembersStand, FirstMember}
use Rattle.nodes.specs.StandingLaws.{size_some, value_name, value_size, value_within, rec_stands, first_member, no_member_left}
use Rattle.nodes.specs.StandingLaws.{text_referred, referred_whole}
use Rattle.plain.specs.Table.{BoundedNumbers, BoundedMembers}
use Rattle.running.specs.Bindings.{Bound, standing, missing}
use Rattle.running.specs.Members.{RecordAt, SomeRecord}

-- the text of a reference
abbrev text_of : List ℕ → ℕ → Bytes
text_of pool k = text_in pool (k % 65536) (k / 65536)

module _ (nodes pool : List ℕ) (at name : ℕ) where
  -- the members left at row i, of which the first of the name is that of all
  pub record Left (i : ℕ) (p : List ℕ) (ms : Members) (n : Bytes) : Type 0 where
    pub others : Members
    pub stand : MembersStand nodes p i (at + row_size nodes at) others
    pub bounded : BoundedMembers others
    pub found : member_of n ms ≡ member_of n others

  pub record Looking (i : ℕ) : Type 0 where
    pub left : (p : List ℕ) (ms : Members) (n : Bytes) → RecordAt nodes pool at p ms → Refers p n name → Left i p ms n
    -- what bounds the row, whatever the name
    pub stands : (p : List ℕ) (ms : Members) → RecordAt nodes pool at p ms → (others : Members) × MembersStand nodes p i (at + row_size nodes at) others

  pub begins : Looking (at + 3)
  unfolding BoundedNumbers
  begins = record {
    left = λ p ms n r f. record { others = ms; stand = rec_stands r.stands; bounded = r.bounded; found = refl };
    stands = λ p ms r. (ms, rec_stands r.stands);
  }

  pub record_within : SomeRecord nodes pool at → (at + row_size nodes at ≤ 65536) × (at + 3 ≤ 65536)
  record_within r =
      let e = value_size r.held.stands in
      let h = value_within r.held.stands in
      let s = size_some (Value.rec r.members) in
      (omega (arith, e, h, r.small), omega (arith, h, s, r.small))

  pub record_inside : SomeRecord nodes pool at → at + row_size nodes at ≤ length nodes
  record_inside r = omega (arith, value_size r.held.stands, value_within r.held.stands)

  module _ {i : ℕ} (w : Looking i) where
    pub step
        : SomeRecord nodes pool at → i < at + row_size nodes at
        → (3 ≤ row_size nodes i) × (i + row_size nodes i ≤ 65536) × (i + row_size nodes i ≤ at + row_size nodes at)
    step r more =
        let l = w.stands r.used r.members r.held in
        let f = first_member l.1 more in
        let e = value_size f.stands in
        let h = value_within f.stands in
        (omega (arith, e, size_some f.value), omega (arith, e, h, r.small), omega (arith, f.more.reaches))

    -- the pool has the row's name whole
    pub named_whole
        : SomeRecord nodes pool at → i < at + row_size nodes at → {k : ℕ} → k ≡ get_or nodes (i + 2) 0 → length (text_of pool k) ≡ k / 65536
    named_whole r more e =
        let l = w.stands r.used r.members r.held in
        let f = first_member l.1 more in
        subst (λ (x : ℕ). length (text_of pool x) ≡ x / 65536) (sym (e ∙ value_name f.stands))
        (referred_whole pool r.held.pooled.front r.held.pooled.small f.refers)

    module _ {k : ℕ} {b : Bool} (named : k ≡ get_or nodes (i + 2) 0) (told : b ≡ same (text_of pool name) (text_of pool k)) where
      compared
          : {p : List ℕ} {ms os : Members} {n : Bytes} → RecordAt nodes pool at p ms → Refers p n name
          → (f : FirstMember nodes p i (at + row_size nodes at) os) → b ≡ same n f.name
      compared r g f =
          told
          ∙ ap (λ (x : ℕ). same (text_of pool name) (text_of pool x)) (named ∙ value_name f.stands)
          ∙ ap (λ (t : Bytes). same (text_of pool name) t) (text_referred pool r.pooled.front r.pooled.small f.refers)
          ∙ ap (λ (t : Bytes). same t f.name) (text_referred pool r.pooled.front r.pooled.small g)

      first_of : {os : Members} (n : Bytes) {p : List ℕ} → (f : FirstMember nodes p i (at + row_size nodes at) os)
          → (b : Bool) → b ≡ same n f.name → member_of n os ≡ elim b [ true ↦ f.value | false ↦ member_of n f.others ]
      unfolding member_of
      first_of n f b e =
          ap (member_of n) f.same
          ∙ ap (λ (t : Bool). elim t [ true ↦ f.value | false ↦ member_of n f.others ]) (sym e)

      pub found_Here
          : i < at + row_size nodes at → b ≡ true → (p : List ℕ) (ms : Members) (n : Bytes) → RecordAt nodes pool at p ms → Refers p n name
          → Bound nodes p i (member_of n ms)
      unfolding BoundedNumbers
      found_Here more t p ms n r g =
          let l = w.left p ms n r g in
          let f = first_member l.stand more in
          let e : member_of n ms ≡ f.value = l.found ∙ first_of n f true (sym t ∙ compared r g f) in
          let bd : BoundedNumbers f.value × BoundedMembers f.others = subst BoundedMembers f.same l.bounded in
          subst (λ (v : Value). Bound nodes p i v) (sym e) (standing f.stands bd.0)

      pub goes_on : {n : ℕ} → i < at + row_size nodes at → b ≡ false → n ≡ row_size nodes i → Looking (i + n)
      unfolding BoundedNumbers
      goes_on more t e =
          subst (λ (m : ℕ). Looking (i + m)) (sym e)
          (record {
            left = λ p ms n r g.
                let l = w.left p ms n r g in
                let f = first_member l.stand more in
                let bd : BoundedNumbers f.value × BoundedMembers f.others = subst BoundedMembers f.same l.bounded in
                record {
                  others = f.others;
                  stand = f.more;
                  bounded = bd.1;
                  found = l.found ∙ first_of n f false (sym t ∙ compared r g f);
                };
            stands = λ p ms r.
                let l = w.stands p ms r in
                let f = first_member l.1 more in (f.others, f.more);
          })

    pub ends
        : at + row_size nodes at ≤ i → (p : List ℕ) (ms : Members) (n : Bytes) → RecordAt nodes pool at p ms → Refers p n name
        → Bound nodes p (length nodes) (member_of n ms)
    unfolding member_of
    ends past p ms n r g =
        let l = w.left p ms n r g in
        subst (λ (v : Value). Bound nodes p (length nodes) v)
        (sym (l.found ∙ ap (member_of n) (no_member_left l.stand past))) (missing refl)
