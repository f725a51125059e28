-- The members that stand in rows, one after the other, and their names. Assumes nothing.
use Prim.Native.Nat.{ℕ, ◌+◌, ◌-◌, ◌/◌, ◌%◌, ◌≤◌, ◌<◌}
use mathlib.Core.Path.{◌≡◌, refl, sym, ap, ◌∙◌, subst}
use mathlib.Core.Bool.{Bool, true, false, ◌||◌}
use mathlib.Core.List.{List, ◌++◌, append_assoc}
use native.Mathlib.Omega.{arith}
use lib.ListN.{length, take, drop, get_or, length-append, length-drop, take-append-drop}
use lib.Seq.{drop-drop, drop_at, drop-append-le, length-take-le}
use Rattle.definitions.specs.Bytes.{Bytes, same}
use Rattle.definitions.specs.Value.{Value, Members, no_members, member, has_name}
use Rattle.pool.specs.Pool.{text_in}
use Rattle.nodes.specs.Nodes.{Refers, row_size, MemberRows, no_member_rows, member_rows}
use Rattle.nodes.specs.NodesLaws.{length_rows, row_size_is, row_name_is}
use Rattle.nodes.specs.StandingLaws.{text_referred_front, referred_whole_front, size_some}
use Rattle.json_reader.specs.JsonParts.{NamedRows, Walkable}

-- ---- one member

-- the rows of some members begin with those of a first one
record FirstMember (nodes pool : List ℕ) (used row to : ℕ) (ms : Members) : Type 0 where
  pub name : Bytes
  pub value : Value
  pub others : Members
  pub word : ℕ
  pub split : ms ≡ member name value others
  pub refers : Refers (take used pool) name word
  pub named : get_or nodes (row + 2) 0 ≡ word
  pub wide : 3 ≤ row_size nodes row
  pub inside : row + row_size nodes row ≤ to
  pub held : MemberRows (take used pool) others (drop (row + row_size nodes row) (take to nodes))

module _ (nodes pool : List ℕ) (used row to : ℕ) (within : to ≤ length nodes) where
  rest_length : length (drop row (take to nodes)) ≡ to - row
  rest_length = length-drop row (take to nodes) ∙ ap (λ (n : ℕ). n - row) (length-take-le to nodes within)

  first_member : {ms : Members} → row < to → MemberRows (take used pool) ms (drop row (take to nodes)) → FirstMember nodes pool used row to ms
  first_member {ms} h held = go ms refl held
    where
      from_row : {xs : List ℕ} → drop row (take to nodes) ≡ xs → drop row nodes ≡ xs ++ drop to nodes
      from_row {xs} e =
          ap (λ (l : List ℕ). drop row l) (sym (take-append-drop to nodes))
          ∙ drop-append-le row (take to nodes) (drop to nodes) (omega (arith, length-take-le to nodes within))
          ∙ ap (λ (l : List ℕ). l ++ drop to nodes) e

      go
          : (ms' : Members) {xs : List ℕ} → drop row (take to nodes) ≡ xs → MemberRows (take used pool) ms' xs
          → FirstMember nodes pool used row to ms'
      go no_members e no_member_rows = absurd (let z : ⊥ = omega (arith, rest_length, ap length e) in z)
      go (member n v os) e (member_rows {k} {rs} {qs} f r rest) =
          let whole : drop row nodes ≡ rs ++ (qs ++ drop to nodes) = from_row e ∙ append_assoc rs qs (drop to nodes) in
          let sized : row_size nodes row ≡ length rs = row_size_is nodes (qs ++ drop to nodes) row r whole in
          record {
            name = n;
            value = v;
            others = os;
            word = k;
            split = refl;
            refers = f;
            named = row_name_is nodes (qs ++ drop to nodes) row r whole;
            wide = omega (arith, sized, length_rows r, size_some v);
            inside = omega (arith, sized, length-append rs qs, ap length e, rest_length);
            held =
                subst (λ (l : List ℕ). MemberRows (take used pool) os l)
                (sym
                (ap (λ (i : ℕ). drop (row + i) (take to nodes)) sized
                ∙ sym (drop-drop (length rs) row (take to nodes))
                ∙ ap (λ (l : List ℕ). drop (length rs) l) e
                ∙ drop_at rs qs (length rs) refl))
                rest;
          }

  no_member_left : {ms : Members} → to ≤ row → MemberRows (take used pool) ms (drop row (take to nodes)) → ms ≡ no_members
  no_member_left {ms} h held = go ms refl held
    where
      go : (ms' : Members) {xs : List ℕ} → drop row (take to nodes) ≡ xs → MemberRows (take used pool) ms' xs → ms' ≡ no_members
      go no_members e no_member_rows = refl
      go (member n v os) e (member_rows {rs} {qs} f r rest) =
          absurd (let z : ⊥ = omega (arith, length_rows r, size_some v, length-append rs qs, ap length e, rest_length) in z)

-- ---- the walk

module _ (nodes pool : List ℕ) (from to w n : ℕ) where
  -- what is left to walk, where the name was not found before
  pub record Left (row : ℕ) (ms : Members) : Type 0 where
    pub others : Members
    pub named : NamedRows nodes pool row to others
    pub found : has_name (text_in pool w n) ms ≡ has_name (text_in pool w n) others

  pub record Walking (row : ℕ) : Type 0 where
    pub ordered : row ≤ to
    pub left : (ms : Members) → NamedRows nodes pool from to ms → Left row ms

  pub walking : from ≤ to → Walking from
  walking h = record { ordered = h; left = λ ms r. record { others = ms; named = r; found = refl } }

module _ (nodes pool : List ℕ) (from to w n row : ℕ) (within : to ≤ length nodes) where
  first_of : row < to → {others : Members} (r : NamedRows nodes pool row to others) → FirstMember nodes pool r.used row to others
  first_of h r = first_member nodes pool r.used row to within h r.held

  -- how a step goes
  pub step_sizes
      : Walkable nodes pool from to → Walking nodes pool from to w n row → row < to
      → (3 ≤ row_size nodes row) × (row + row_size nodes row ≤ to)
  step_sizes k v h =
      let f = first_of h (v.left k.members k.named).named in (f.wide, f.inside)

  -- the name of the row
  abbrev pub name_here : ℕ
  name_here = get_or nodes (row + 2) 0

  -- the pool has it whole
  pub name_whole
      : Walkable nodes pool from to → Walking nodes pool from to w n row → row < to
      → length (text_in pool (name_here % 65536) (name_here / 65536)) ≡ name_here / 65536
  name_whole k v h =
      let r = (v.left k.members k.named).named in
      let f = first_of h r in
      subst (λ (x : ℕ). length (text_in pool (x % 65536) (x / 65536)) ≡ x / 65536) (sym f.named)
      (referred_whole_front pool r.used r.within r.few f.refers)

  -- what comparing says of the first member
  compared
      : (h : row < to) {others : Members} (r : NamedRows nodes pool row to others) {b : Bool}
      → b ≡ same (text_in pool w n) (text_in pool (name_here % 65536) (name_here / 65536)) → b ≡ same (text_in pool w n) (first_of h r).name
  compared h r s =
      let f = first_of h r in
      s
      ∙ ap (λ (y : ℕ). same (text_in pool w n) (text_in pool (y % 65536) (y / 65536))) f.named
      ∙ ap (λ (t : Bytes). same (text_in pool w n) t) (text_referred_front pool r.used r.within r.few f.refers)

  pub found_Here
      : Walking nodes pool from to w n row → row < to → {b : Bool}
      → b ≡ same (text_in pool w n) (text_in pool (name_here % 65536) (name_here / 65536)) → b ≡ true
      → (ms : Members) → NamedRows nodes pool from to ms → true ≡ has_name (text_in pool w n) ms
  unfolding has_name
  found_Here v h s t ms r =
      let left = v.left ms r in
      let f = first_of h left.named in
      sym
      (left.found
      ∙ ap (has_name (text_in pool w n)) f.split
      ∙ ap (λ (y : Bool). y || has_name (text_in pool w n) f.others) (sym (compared h left.named s) ∙ t))

  pub walked_on
      : Walking nodes pool from to w n row → row < to → Walkable nodes pool from to → {b : Bool}
      → b ≡ same (text_in pool w n) (text_in pool (name_here % 65536) (name_here / 65536)) → b ≡ false
      → Walking nodes pool from to w n (row + row_size nodes row)
  unfolding has_name
  walked_on v h k s t =
      record {
        ordered = (step_sizes k v h).1;
        left = λ ms r.
            let left = v.left ms r in
            let f = first_of h left.named in
            record {
              others = f.others;
              named =
                  record { used = left.named.used; within = left.named.within; few = left.named.few; held = f.held };
              found =
                  left.found
                  ∙ ap (has_name (text_in pool w n)) f.split
                  ∙ ap (λ (y : Bool). y || has_name (text_in pool w n) f.others) (sym (compared h left.named s) ∙ t);
            };
      }

  pub not_found
      : Walking nodes pool from to w n row → to ≤ row
      → (ms : Members) → NamedRows nodes pool from to ms → false ≡ has_name (text_in pool w n) ms
  unfolding has_name
  not_found v h ms r =
      let left = v.left ms r in
      sym
      (left.found
      ∙ ap (has_name (text_in pool w n)) (no_member_left nodes pool left.named.used row to within h left.named.held))
