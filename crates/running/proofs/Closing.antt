-- The rows of lists and records closed, and of values copied. Assumes nothing.
use Prim.Native.Nat.{ℕ, suc, ◌+◌, ◌-◌, ◌*◌, ◌/◌, ◌%◌, ◌≤◌, ◌<◌, max}
use native.Mathlib.Omega.{arith}
use mathlib.Core.Path.{◌≡◌, refl, sym, ap, ap₂, ◌∙◌, subst}
use mathlib.Core.Bool.{true, false}
use mathlib.Core.List.{List, [], ◌∷◌, ◌++◌, append_assoc}
use lib.ListN.{length, get_or, take, drop, set, length-append, length-set, length-drop}
use lib.Seq.{length-take-le, take_at, set-append_left, take-set-le}
use Rattle.definitions.specs.Value.{Value, Items, Members, size}
use Rattle.definitions.specs.Plain.{plain}
use Rattle.definitions.specs.Json.{null_name}
use Rattle.definitions.specs.Bytes.{bytes}
use Rattle.nodes.specs.Nodes.{kind_code, number_bits, head_of, head_word, row_size, Rows, null_row, bool_row, number_row, text_row, list_rows, rec_rows}
use Rattle.nodes.specs.NodesLaws.{head_word_is, length_rows, length_item_rows, length_member_rows}
use Rattle.nodes.specs.RowLaws.{with_row, row_alone}
use Rattle.nodes.specs.Standing.{ValueStands}
use Rattle.nodes.specs.StandingLaws.{size_some, value_size, value_within}
use Rattle.plain.specs.PlainLaws.{items_length, members_length, length_list, length_rec}
use Rattle.running.specs.Bindings.{Bound, standing, missing}
use Rattle.running.specs.BindingsLaws.{bound_kind}
use Rattle.running.specs.Lengths.{items_most, members_most}
use Rattle.running.specs.Rows.{PutRow, SomeBound, Keeps, ItemsAt, SomeItems, MembersAt, SomeMembers, ClosesList}
use Rattle.running.specs.Rows.{ClosesRecord}
use Rattle.running.specs.Walk.{Puts}
use Rattle.running.proofs.PutRows.{with_row_front}

-- ---- lists

module _ (results : List ℕ) (begun to : ℕ) where
  pub list_short : {length' : ℕ} → SomeItems results (3 * begun + 3) (3 * to)
      → ((p : List ℕ) (vs : Items) → ItemsAt results (3 * begun + 3) (3 * to) p vs → length' ≡ items_length vs) → length' ≤ 8388608 * 65536
  list_short s m =
      let h = s.held.stand in
      omega (
        arith,
        m s.used s.items s.held,
        items_most h.encoded s.pooled s.held.bounded,
        length-drop (3 * begun + 3) results,
        ap length h.placed,
        length-append h.rows h.rest,
        length_item_rows h.encoded,
        s.small,
      )

  pub list_left : (name : ℕ) → length results < 3 * to → ClosesList results results begun to name
  list_left name short = record { front = refl; closed = λ r. absurd (let z : ⊥ = omega (arith, r, short) in z) }

  pub list_closed
      : (name : ℕ) {length' : ℕ} {after : List ℕ} → begun < to → 3 * to ≤ length results
      → ((p : List ℕ) (vs : Items) → ItemsAt results (3 * begun + 3) (3 * to) p vs → length' ≡ items_length vs)
      → after ≡ with_row results begun (head_of 5 0 (1 + max 1 length')) (3 * (to - begun)) name → ClosesList results after begun to name
  unfolding kind_code number_bits size
  list_closed name {length'} later room m e =
      record {
        front = ap (λ (t : List ℕ). take (3 * begun) t) e ∙ with_row_front results begun _ _ name (omega arith);
        closed = λ r p vs held.
            let a = head_word_is (Value.list vs) refl refl (ap (λ (x : ℕ). 1 + max 1 x) (m p vs held) ∙ sym (length_list vs)) in
            let b : 3 * (to - begun) ≡ 3 * size (Value.list vs) = omega (arith, held.stand.reaches, length_item_rows held.stand.encoded) in
            e ∙ ap₂ (λ (x y : ℕ). with_row results begun x y name) a b;
      }

-- ---- records

module _ (results pool : List ℕ) (begun to : ℕ) where
  pub record_short : {length' : ℕ} → SomeMembers results pool (3 * begun + 3) (3 * to)
      → ((p : List ℕ) (ms : Members) → MembersAt results pool (3 * begun + 3) (3 * to) p ms → length' ≡ members_length ms) → length' ≤ 8388608 * 65536
  record_short s m =
      let h = s.held.stand in
      omega (
        arith,
        m s.used s.members s.held,
        members_most h.encoded s.held.pooled.small s.held.bounded,
        length-drop (3 * begun + 3) results,
        ap length h.placed,
        length-append h.rows h.rest,
        length_member_rows h.encoded,
        s.small,
      )

  pub record_left : (name : ℕ) → length results < 3 * to → ClosesRecord results results pool begun to name
  record_left name short = record { front = refl; closed = λ r. absurd (let z : ⊥ = omega (arith, r, short) in z) }

  pub record_closed
      : (name : ℕ) {length' : ℕ} {after : List ℕ} → begun < to → 3 * to ≤ length results
      → ((p : List ℕ) (ms : Members) → MembersAt results pool (3 * begun + 3) (3 * to) p ms → length' ≡ members_length ms)
      → after ≡ with_row results begun (head_of 6 0 (1 + max 1 length')) (3 * (to - begun)) name → ClosesRecord results after pool begun to name
  unfolding kind_code number_bits size
  record_closed name {length'} later room m e =
      record {
        front = ap (λ (t : List ℕ). take (3 * begun) t) e ∙ with_row_front results begun _ _ name (omega arith);
        closed = λ r p ms held.
            let a = head_word_is (Value.rec ms) refl refl (ap (λ (x : ℕ). 1 + max 1 x) (m p ms held) ∙ sym (length_rec ms)) in
            let b : 3 * (to - begun) ≡ 3 * size (Value.rec ms) = omega (arith, held.stand.reaches, length_member_rows held.stand.encoded) in
            e ∙ ap₂ (λ (x y : ℕ). with_row results begun x y name) a b;
      }

-- ---- values copied

set_behind : (xs ys : List ℕ) (i a : ℕ) → set (xs ++ ys) (length xs + i) a ≡ xs ++ set ys i a
set_behind [] ys i a = ap (λ (k : ℕ). set ys k a) (let e : 0 + i ≡ i = omega arith in e)
set_behind (x ∷ xs) ys i a =
    ap (λ (k : ℕ). set (x ∷ (xs ++ ys)) k a) (let e : suc (length xs) + i ≡ suc (length xs + i) = omega arith in e)
    ∙ ap (λ (r : List ℕ). x ∷ r) (set_behind xs ys i a)

-- the rows of a value under another name
renamed_at : {p : List ℕ} {m : ℕ} {v : Value} {rs : List ℕ} (name : ℕ) → Rows p m v rs → Rows p name v (set rs 2 name)
renamed_at name null_row = null_row
renamed_at name bool_row = bool_row
renamed_at name number_row = number_row
renamed_at name (text_row f) = text_row f
renamed_at name (list_rows is) = list_rows is
renamed_at name (rec_rows ns) = rec_rows ns

-- a row alone
pub put_alone
    : {p before after : List ℕ} {name begun head payload r : ℕ} {v : Value} → PutRow before after begun head payload name r → size v ≡ 1
    → Rows p name v (head ∷ payload ∷ name ∷ []) → Puts p before after name begun v r
put_alone {p} {before} {after} {name} {begun} {head} {payload} {r} {v} h one rows =
    record {
      counted = h.counted ∙ ap (λ (n : ℕ). begun + n) (sym one);
      put = λ room.
          record {
            rows = head ∷ payload ∷ name ∷ [];
            encoded = rows;
            placed =
                ap (λ (n : ℕ). take (3 * (begun + n)) after) one
                ∙ ap (take (3 * (begun + 1))) (h.put (omega (arith, room, h.counted)))
                ∙ row_alone before begun head payload name (omega (arith, room, h.counted));
          };
    }

null_head : head_of 0 0 4 ≡ head_word Value.null
unfolding kind_code number_bits plain null_name bytes
null_head = head_word_is Value.null refl refl refl

data IsNull : Value → Type 0 where
  is_null : IsNull Value.null

null_of_kind : (v : Value) → kind_code v ≡ 0 → IsNull v
unfolding kind_code
null_of_kind Value.null e = is_null
null_of_kind (Value.bool true) e = absurd (let z : ⊥ = omega (arith, e) in z)
null_of_kind (Value.bool false) e = absurd (let z : ⊥ = omega (arith, e) in z)
null_of_kind (Value.number x) e = absurd (let z : ⊥ = omega (arith, e) in z)
null_of_kind (Value.text t) e = absurd (let z : ⊥ = omega (arith, e) in z)
null_of_kind (Value.list vs) e = absurd (let z : ⊥ = omega (arith, e) in z)
null_of_kind (Value.rec ms) e = absurd (let z : ⊥ = omega (arith, e) in z)

module _ (nodes : List ℕ) (at : ℕ) (before : List ℕ) (begun name : ℕ) {kind : ℕ} (kinded : kind ≡ get_or nodes at 0 % 8) where
  pub null_kept
      : {after : List ℕ} {head r : ℕ} → kind ≡ 0 → head ≡ head_of 0 0 4 → PutRow before after begun head 0 name r → Keeps nodes at before after begun name r
  unfolding size
  null_kept {after} {head} {r} e h q =
      record { front = q.front; puts = λ p v b. go p (null_of_kind v (sym (kinded ∙ bound_kind b) ∙ e)) }
    where
      go : (p : List ℕ) {v : Value} → IsNull v → Puts p before after name begun v r
      go p is_null =
          put_alone (subst (λ (x : ℕ). PutRow before after begun x 0 name r) (h ∙ null_head) q) refl null_row

  module _ (some : kind ≡ 0 → ⊥) {n : ℕ} (sized : n ≡ row_size nodes at) where
    stands_at : {p : List ℕ} {v : Value} → Bound nodes p at v → (m : ℕ) × ValueStands nodes p at m v
    unfolding kind_code
    stands_at (standing {m} s b) = (m, s)
    stands_at {p} (missing e) = absurd (some (kinded ∙ bound_kind (let b : Bound nodes p at Value.null = missing e in b)))

    words_at : {p : List ℕ} {v : Value} → Bound nodes p at v → (n ≡ 3 * size v) × (at + n ≤ length nodes)
    words_at b =
        let s = (stands_at b).1 in
        (sized ∙ value_size s, omega (arith, sized, value_size s, value_within s))

    pub copy_bounds : {b : ℕ} → SomeBound nodes at b → (at + n ≤ length nodes) × (3 ≤ n) × (n ≤ 65536)
    copy_bounds b =
        let w = words_at b.bound in
        (w.1, omega (arith, w.0, size_some b.value), omega (arith, w.1, b.small))

    pub copy_left : length before < 3 * begun + n → Keeps nodes at before before begun name (begun + n / 3)
    copy_left short =
        record {
          front = refl;
          puts = λ p v b.
              let w = words_at b in
              record {
                counted = omega (arith, w.0);
                put = λ r. absurd (let z : ⊥ = omega (arith, r, short, w.0) in z);
              };
        }

    pub copy_kept
        : {mid : List ℕ} → 3 * begun + n ≤ length before
        → mid ≡ take (3 * begun) before ++ take n (drop at nodes) ++ drop (3 * begun + n) before
        → Keeps nodes at before (set mid (3 * begun + 2) name) begun name (begun + n / 3)
    copy_kept {mid} room e =
        record {
          front = take-set-le (3 * begun) mid (3 * begun + 2) name (omega arith)
              ∙ ap (take (3 * begun)) (e ∙ append_assoc (take (3 * begun) before) (take n (drop at nodes)) (drop (3 * begun + n) before))
              ∙ take_at (take (3 * begun) before) (take n (drop at nodes) ++ drop (3 * begun + n) before) (3 * begun) long;
          puts = λ p v b. go p v b (words_at b) (stands_at b);
        }
      where
        long : length (take (3 * begun) before) ≡ 3 * begun
        long = length-take-le (3 * begun) before (omega arith)

        go : (p : List ℕ) (v : Value) → Bound nodes p at v → (n ≡ 3 * size v) × (at + n ≤ length nodes)
            → (m : ℕ) × ValueStands nodes p at m v → Puts p before (set mid (3 * begun + 2) name) name begun v (begun + n / 3)
        go p v b w (m, s) =
            let rows : take n (drop at nodes) ≡ s.rows = ap (take n) s.placed ∙ take_at s.rows s.rest n (length_rows s.encoded ∙ sym w.0) in
            let T = take (3 * begun) before in
            let D = drop (3 * begun + n) before in
            let index : 3 * begun + 2 ≡ length T + 2 = omega (arith, long) in
            let there : 3 * begun + 2 < length (T ++ s.rows) =
            omega (arith, long, length-append T s.rows, length_rows s.encoded, size_some v) in
            let whole : set mid (3 * begun + 2) name ≡ (T ++ set s.rows 2 name) ++ D =
            ap (λ (l : List ℕ). set l (3 * begun + 2) name) (e ∙ ap (λ (l : List ℕ). T ++ l ++ D) rows)
            ∙ set-append_left (T ++ s.rows) D (3 * begun + 2) name there
            ∙ ap (λ (l : List ℕ). l ++ D) (ap (λ (k : ℕ). set (T ++ s.rows) k name) index ∙ set_behind T s.rows 2 name) in
            let placed : take (3 * (begun + size v)) (set mid (3 * begun + 2) name) ≡ T ++ set s.rows 2 name =
            ap (take (3 * (begun + size v))) whole
            ∙ take_at (T ++ set s.rows 2 name) D (3 * (begun + size v))
            (length-append T (set s.rows 2 name)
            ∙ omega (arith, long, length-set s.rows 2 name, length_rows s.encoded)) in
            record {
              counted = omega (arith, w.0);
              put = λ r.
                  record {
                    rows = set s.rows 2 name;
                    encoded = renamed_at name s.encoded;
                    placed = placed;
                  };
            }
