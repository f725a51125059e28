-- Members and their names: how long they are in plain JSON. Assumes nothing.
use Prim.Native.Nat.{ℕ, ◌+◌, ◌*◌, ◌/◌, ◌%◌, ◌^◌, ◌≤◌, ◌<◌}
use native.Mathlib.Omega.{arith}
use mathlib.Core.Path.{◌≡◌, sym, ap, ap₂, ◌∙◌, subst}
use mathlib.Core.List.{List}
use lib.ListN.{length, get_or, length-append, length-drop}
use Rattle.definitions.specs.Bytes.{Bytes}
use Rattle.definitions.specs.Value.{Members, size_members}
use Rattle.definitions.specs.Plain.{plain_text}
use Rattle.pool.specs.Pool.{words, text_in}
use Rattle.nodes.specs.Nodes.{Refers, row_size}
use Rattle.nodes.specs.NodesLaws.{length_member_rows}
use Rattle.nodes.specs.Standing.{FirstMember}
use Rattle.nodes.specs.StandingLaws.{size_some, value_name, value_size, value_within, first_member, no_member_left}
use Rattle.plain.specs.PlainLaws.{members_length}
use Rattle.plain.specs.Table.{BoundedNumbers, BoundedMembers, Used}
use Rattle.plain.specs.TableLaws.{found}
use Rattle.running.specs.Lengths.{text_most, members_most}
use Rattle.running.specs.Rows.{NameAt, SomeName, MembersAt, SomeMembers}
use Rattle.running.proofs.Elements.{written_at}

-- ---- a name

module _ {results pool : List ℕ} {row k w n : ℕ} (named : k ≡ get_or results (row + 2) 0) (worded : w ≡ k % 65536) (sized : n ≡ k / 65536) where
  pub name_plain : (p : List ℕ) (t : Bytes) → NameAt results pool row p t → plain_text (text_in pool w n) ≡ plain_text t
  name_plain p t h =
      ap₂ (λ (x y : ℕ). plain_text (text_in pool x y)) worded sized
      ∙ ap (λ (j : ℕ). plain_text (text_in pool (j % 65536) (j / 65536))) named
      ∙ ap plain_text (found h.pooled h.refers).text

  pub name_room : SomeName results pool row → (w + words n ≤ length pool) × (length (plain_text (text_in pool w n)) < 2 ^ 64)
  name_room s =
      let h = s.held in (
        subst (λ (x : ℕ). x + words n ≤ length pool) (sym worded)
            (subst (λ (y : ℕ). k % 65536 + words y ≤ length pool) (sym sized)
            (subst (λ (j : ℕ). j % 65536 + words (j / 65536) ≤ length pool) (sym named) (found h.pooled h.refers).within)),
        omega (arith, ap length (name_plain s.used s.name h), text_most h.refers h.pooled.small),
      )

-- ---- members

name_of_first
    : {results pool p : List ℕ} {i end : ℕ} {ms : Members} → Used pool p → (f : FirstMember results p i end ms) → NameAt results pool i p f.name
name_of_first {p = p} u f = record { refers = subst (Refers p f.name) (sym (value_name f.stands)) f.refers; pooled = u }

module _ (results pool : List ℕ) (row end : ℕ) where
  -- those left at row i, behind so many bytes
  pub record MembersLeft (i length' : ℕ) (p : List ℕ) (ms : Members) : Type 0 where
    pub left : Members
    pub held : MembersAt results pool i end p left
    pub whole : length' + members_length left ≡ members_length ms

  pub record Measuring (i length' : ℕ) : Type 0 where
    pub going : (p : List ℕ) (ms : Members) → MembersAt results pool row end p ms → MembersLeft i length' p ms

  pub measuring : Measuring row 0
  measuring = record { going = λ p ms h. record { left = ms; held = h; whole = omega arith } }

  module _ {i length' : ℕ} (w : Measuring i length') where
    pub some_name : SomeMembers results pool row end → i < end → SomeName results pool i
    some_name s more =
        let l = w.going s.used s.members s.held in
        let f = first_member l.held.stand more in
        record { used = s.used; name = f.name; held = name_of_first s.held.pooled f }

    pub member_bounds
        : SomeMembers results pool row end → i < end → {n m : ℕ} → n ≡ get_or results i 0 / 256
        → ((p : List ℕ) (t : Bytes) → NameAt results pool i p t → m ≡ length (plain_text t))
        → (3 ≤ row_size results i) × (i + row_size results i ≤ 65536) × (length' + (2 + m + n) ≤ 8388608 * 65536)
    unfolding members_length BoundedNumbers
    member_bounds s more e g =
        let l = w.going s.used s.members s.held in
        let f = first_member l.held.stand more in
        let bd : BoundedNumbers f.value × BoundedMembers f.others = subst BoundedMembers f.same l.held.bounded in
        let z = value_size f.stands in
        let t = members_most s.held.stand.encoded s.held.pooled.small s.held.bounded in (
          omega (arith, z, size_some f.value),
          omega (arith, z, value_within f.stands, s.small),
          omega (
            arith,
            l.whole,
            ap members_length f.same,
            written_at f.stands bd.0 e,
            g s.used f.name (name_of_first s.held.pooled f),
            t,
            members_within s,
          ),
        )
      where
        members_within : (q : SomeMembers results pool row end) → 3 * size_members q.members ≤ 65536
        members_within q =
            let h = q.held.stand in
            omega (arith, length-drop row results, ap length h.placed, length-append h.rows h.rest, length_member_rows h.encoded, q.small)

    pub measure_on
        : {n m k : ℕ} → i < end → n ≡ get_or results i 0 / 256
        → ((p : List ℕ) (t : Bytes) → NameAt results pool i p t → m ≡ length (plain_text t)) → k ≡ row_size results i
        → Measuring (i + k) (length' + (2 + m + n))
    unfolding members_length BoundedNumbers
    measure_on {n} {m} more e g f =
        subst (λ (k : ℕ). Measuring (i + k) (length' + (2 + m + n))) (sym f)
        (record {
          going = λ p ms h.
              let l = w.going p ms h in
              let a = first_member l.held.stand more in
              let bd : BoundedNumbers a.value × BoundedMembers a.others = subst BoundedMembers a.same l.held.bounded in
              record {
                left = a.others;
                held = record { stand = a.more; bounded = bd.1; pooled = h.pooled };
                whole =
                    omega (
                      arith,
                      l.whole,
                      ap members_length a.same,
                      written_at a.stands bd.0 e,
                      g p a.name (name_of_first h.pooled a),
                    );
              };
        })

    pub measured : end ≤ i → (p : List ℕ) (ms : Members) → MembersAt results pool row end p ms → length' ≡ members_length ms
    unfolding members_length
    measured past p ms h =
        let l = w.going p ms h in
        omega (arith, l.whole, ap members_length (no_member_left l.held.stand past))
