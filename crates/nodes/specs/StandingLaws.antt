-- Laws of where values, elements and members stand, in the order of their definitions. Assumes nothing.
use Rattle.std.specs.Prelude.{ℕ, ◌+◌, ◌*◌, ◌/◌, ◌%◌, ◌≤◌, ◌<◌, ◌≡◌, refl, Bool, List, ◌∷◌, ◌++◌, length, take, drop, get_or}
use Rattle.std.proofs.Common.{sym, ap, ap₂, ◌∙◌, subst, append_assoc, add-zero, arith, length-append, length-drop, drop-drop, drop_at, get_or-drop}
use Rattle.std.proofs.Common.{length-take-le, take-take}
use Rattle.std.proofs.Math.Seq.{take-length}
use Rattle.definitions.specs.Bytes.{Bytes, same}
use Rattle.definitions.specs.Number.{Number}
use Rattle.definitions.specs.Value.{Value, Items, no_items, Members, no_members, size}
use Rattle.pool.specs.Pool.{text_in, words}
use Rattle.pool.specs.PoolLaws.{text_in_front, text_in_held}
use Rattle.nodes.specs.Nodes.{head_word, Refers, refers, Rows, number_row, list_rows, rec_rows, row_size, ItemRows, reference}
use Rattle.nodes.specs.Nodes.{no_item_rows, item_rows, MemberRows, no_member_rows, member_rows}
use Rattle.nodes.specs.NodesLaws.{reference_word, reference_bytes, length_rows, rows_begin, get_or_row, row_size_is, row_name_is}
use Rattle.nodes.specs.Standing.{ValueStands, NumberStands, ItemsStand, MembersStand, FirstItem, FirstMember}

pub size_some : (v : Value) → 1 ≤ size v
unfolding size
size_some Value.null = omega arith
size_some (Value.bool b) = omega arith
size_some (Value.number x) = omega arith
size_some (Value.text t) = omega arith
size_some (Value.list vs) = omega arith
size_some (Value.rec ms) = omega arith

-- ---- a value

module _ {nodes p : List ℕ} {at m : ℕ} {v : Value} where
  pub value_head : ValueStands nodes p at m v → get_or nodes at 0 ≡ head_word v
  value_head s =
      ap (λ (i : ℕ). get_or nodes i 0) (sym (add-zero at))
      ∙ sym (get_or-drop at nodes 0 0)
      ∙ ap (λ (l : List ℕ). get_or l 0 0) (s.placed ∙ ap (λ (l : List ℕ). l ++ s.rest) (rows_begin s.encoded).split)

  pub value_name : ValueStands nodes p at m v → get_or nodes (at + 2) 0 ≡ m
  value_name s = row_name_is nodes s.rest at s.encoded s.placed

  pub value_size : ValueStands nodes p at m v → row_size nodes at ≡ 3 * size v
  value_size s = row_size_is nodes s.rest at s.encoded s.placed ∙ length_rows s.encoded

  pub value_within : ValueStands nodes p at m v → at + 3 * size v ≤ length nodes
  value_within s =
      omega (
        arith,
        size_some v,
        length-drop at nodes,
        ap length s.placed,
        length-append s.rows s.rest,
        length_rows s.encoded,
      )

-- a number by its first two words
pub number_stands
    : {nodes p : List ℕ} {at m : ℕ} {x : Number} → ValueStands nodes p at m (Value.number x) → x.scale < 16 → NumberStands nodes at x
number_stands {nodes} {p} {at} {m} {x} s h = record { head = value_head s; payload = go s.encoded s.placed; small = h }
  where
    go : {rs : List ℕ} → Rows p m (Value.number x) rs → drop at nodes ≡ rs ++ s.rest → get_or nodes (at + 1) 0 ≡ x.coefficient
    go number_row e = get_or_row nodes at 1 e

-- behind a list's or a record's own row
inner
    : (nodes : List ℕ) (at : ℕ) {x y m : ℕ} (qs rest : List ℕ) → drop at nodes ≡ (x ∷ y ∷ m ∷ qs) ++ rest
    → drop (at + 3) nodes ≡ qs ++ rest
inner nodes at qs rest e = sym (drop-drop 3 at nodes) ∙ ap (drop 3) e

pub list_stands
    : {nodes p : List ℕ} {at m : ℕ} {vs : Items} → ValueStands nodes p at m (Value.list vs)
    → ItemsStand nodes p (at + 3) (at + row_size nodes at) vs
list_stands {nodes} {p} {at} {m} {vs} s = go s.encoded s.placed
  where
    go
        : {rs : List ℕ} → Rows p m (Value.list vs) rs → drop at nodes ≡ rs ++ s.rest
        → ItemsStand nodes p (at + 3) (at + row_size nodes at) vs
    go (list_rows {rs} is) e =
        record {
          rows = rs;
          rest = s.rest;
          encoded = is;
          placed = inner nodes at rs s.rest e;
          reaches = omega (arith, row_size_is nodes s.rest at (list_rows {m = m} is) e);
        }

pub rec_stands
    : {nodes p : List ℕ} {at m : ℕ} {ms : Members} → ValueStands nodes p at m (Value.rec ms)
    → MembersStand nodes p (at + 3) (at + row_size nodes at) ms
rec_stands {nodes} {p} {at} {m} {ms} s = go s.encoded s.placed
  where
    go
        : {rs : List ℕ} → Rows p m (Value.rec ms) rs → drop at nodes ≡ rs ++ s.rest
        → MembersStand nodes p (at + 3) (at + row_size nodes at) ms
    go (rec_rows {rs} is) e =
        record {
          rows = rs;
          rest = s.rest;
          encoded = is;
          placed = inner nodes at rs s.rest e;
          reaches = omega (arith, row_size_is nodes s.rest at (rec_rows {m = m} is) e);
        }

-- ---- elements

behind
    : (nodes : List ℕ) (at : ℕ) {n : ℕ} (rs qs rest : List ℕ) → drop at nodes ≡ rs ++ (qs ++ rest) → n ≡ length rs
    → drop (at + n) nodes ≡ qs ++ rest
behind nodes at {n} rs qs rest e l =
    sym (drop-drop n at nodes) ∙ ap (drop n) e ∙ drop_at rs (qs ++ rest) n (sym l)

module _ {nodes p : List ℕ} {at end : ℕ} {vs : Items} (h : ItemsStand nodes p at end vs) where
  pub first_item : at < end → FirstItem nodes p at end vs
  first_item more = go h.encoded h.placed h.reaches
    where
      go
          : {ws : Items} {rs : List ℕ} → ItemRows p ws rs → drop at nodes ≡ rs ++ h.rest → at + length rs ≡ end
          → FirstItem nodes p at end ws
      go no_item_rows e l = absurd (let z : ⊥ = omega arith in z)
      go (item_rows {v} {vs = os} {rs} {qs} r is) e l =
          let whole : drop at nodes ≡ rs ++ (qs ++ h.rest) = e ∙ append_assoc rs qs h.rest in
          let sized : row_size nodes at ≡ length rs = row_size_is nodes (qs ++ h.rest) at r whole in
          record {
            value = v;
            others = os;
            same = refl;
            stands = record { rows = rs; rest = qs ++ h.rest; encoded = r; placed = whole };
            more =
                record {
                  rows = qs;
                  rest = h.rest;
                  encoded = is;
                  placed = behind nodes at rs qs h.rest whole sized;
                  reaches = omega (arith, length-append rs qs);
                };
          }

  pub no_item_left : end ≤ at → vs ≡ no_items
  no_item_left past = go h.encoded h.reaches
    where
      go : {ws : Items} {rs : List ℕ} → ItemRows p ws rs → at + length rs ≡ end → ws ≡ no_items
      go no_item_rows l = refl
      go (item_rows {v} {rs} {qs} r is) l =
          absurd (let z : ⊥ = omega (arith, length-append rs qs, length_rows r, size_some v) in z)

-- ---- members

module _ {nodes p : List ℕ} {at end : ℕ} {ms : Members} (h : MembersStand nodes p at end ms) where
  pub first_member : at < end → FirstMember nodes p at end ms
  first_member more = go h.encoded h.placed h.reaches
    where
      go
          : {ns : Members} {rs : List ℕ} → MemberRows p ns rs → drop at nodes ≡ rs ++ h.rest → at + length rs ≡ end
          → FirstMember nodes p at end ns
      go no_member_rows e l = absurd (let z : ⊥ = omega arith in z)
      go (member_rows {n} {k} {v} {ms = os} {rs} {qs} f r is) e l =
          let whole : drop at nodes ≡ rs ++ (qs ++ h.rest) = e ∙ append_assoc rs qs h.rest in
          let sized : row_size nodes at ≡ length rs = row_size_is nodes (qs ++ h.rest) at r whole in
          record {
            name = n;
            word = k;
            value = v;
            others = os;
            same = refl;
            refers = f;
            stands = record { rows = rs; rest = qs ++ h.rest; encoded = r; placed = whole };
            more =
                record {
                  rows = qs;
                  rest = h.rest;
                  encoded = is;
                  placed = behind nodes at rs qs h.rest whole sized;
                  reaches = omega (arith, length-append rs qs);
                };
          }

  pub no_member_left : end ≤ at → ms ≡ no_members
  no_member_left past = go h.encoded h.reaches
    where
      go : {ns : Members} {rs : List ℕ} → MemberRows p ns rs → at + length rs ≡ end → ns ≡ no_members
      go no_member_rows l = refl
      go (member_rows {v} {rs} {qs} f r is) l =
          absurd (let z : ⊥ = omega (arith, length-append rs qs, length_rows r, size_some v) in z)

-- ---- a text of the pool

-- the text of a reference, where p is the used part of the pool
pub text_referred
    : (pool : List ℕ) {p : List ℕ} {t : Bytes} {k : ℕ} → take (length p) pool ≡ p → length p < 65536 → Refers p t k
    → text_in pool (k % 65536) (k / 65536) ≡ t
text_referred pool {p} {t} front small (refers w h e) =
    let g : w < 65536 = omega arith in
    rw (reference_word w (length t) g, reference_bytes w (length t) g)
    (text_in_front p pool (length p) w (length t) (front ∙ sym (take-length p)) h ∙ e)

-- the pool has it whole
pub referred_whole
    : (pool : List ℕ) {p : List ℕ} {t : Bytes} {k : ℕ} → take (length p) pool ≡ p → length p < 65536 → Refers p t k
    → length (text_in pool (k % 65536) (k / 65536)) ≡ k / 65536
referred_whole pool {p} {t} front small (refers w h e) =
    ap length (text_referred pool front small (refers w h e)) ∙ sym (reference_bytes w (length t) (omega arith))

-- by its word and its length
pub whole_parts
    : (pool : List ℕ) (k : ℕ) {x y : ℕ} → x ≡ k % 65536 → y ≡ k / 65536 → length (text_in pool (k % 65536) (k / 65536)) ≡ k / 65536
    → length (text_in pool x y) ≡ y
whole_parts pool k e f h = ap length (ap₂ (text_in pool) e f) ∙ h ∙ sym f

-- the texts of two references are compared as what the pool has of the first, n bytes, and the second
pub compared_parts
    : (pool : List ℕ) (a k : ℕ) {w s n x y : ℕ} {b : Bool} → w ≡ a % 65536 → s ≡ a / 65536 → n ≡ length (text_in pool w s) → x ≡ k % 65536
    → y ≡ k / 65536 → b ≡ same (text_in pool w n) (text_in pool x y)
    → b ≡ same (text_in pool (a % 65536) (a / 65536)) (text_in pool (k % 65536) (k / 65536))
compared_parts pool a k {w} {s} {n} e f g h i q = q ∙ ap₂ same (text_in_held pool w s n g ∙ ap₂ (text_in pool) e f) (ap₂ (text_in pool) h i)

-- where the used part is the first words of the pool
pub text_referred_front
    : (pool : List ℕ) (used : ℕ) {k : ℕ} {t : Bytes} → used ≤ length pool → used < 65536 → Refers (take used pool) t k
    → text_in pool (k % 65536) (k / 65536) ≡ t
text_referred_front pool used h few r =
    let size : length (take used pool) ≡ used = length-take-le used pool h in
    text_referred pool (ap (λ (k : ℕ). take k pool) size) (omega arith) r

pub referred_whole_front
    : (pool : List ℕ) (used : ℕ) {k : ℕ} {t : Bytes} → used ≤ length pool → used < 65536 → Refers (take used pool) t k
    → length (text_in pool (k % 65536) (k / 65536)) ≡ k / 65536
referred_whole_front pool used h few r =
    let size : length (take used pool) ≡ used = length-take-le used pool h in
    referred_whole pool (ap (λ (k : ℕ). take k pool) size) (omega arith) r

-- a text that was put behind the used part of a pool stands in what is used then
pub text_refers
    : (pool : List ℕ) (w n : ℕ) → length (text_in pool w n) ≡ n → w + words n ≤ length pool
    → Refers (take (w + (n + 7) / 8) pool) (text_in pool w n) (reference w n)
unfolding words
text_refers pool w n e h =
    let long : length (take (w + (n + 7) / 8) pool) ≡ w + (n + 7) / 8 = length-take-le (w + (n + 7) / 8) pool h in
    let same_text : text_in (take (w + (n + 7) / 8) pool) w n ≡ text_in pool w n =
    text_in_front pool (take (w + (n + 7) / 8) pool) (w + (n + 7) / 8) w n
    (take-take (w + (n + 7) / 8) (w + (n + 7) / 8) pool (omega arith)) (omega arith)
    in
    subst (λ (k : ℕ). Refers (take (w + (n + 7) / 8) pool) (text_in pool w n) (reference w k)) e
    (refers w
    (subst (λ (k : ℕ). w + words k ≤ length (take (w + (n + 7) / 8) pool)) (sym e) (omega (arith, long)))
    (ap (λ (k : ℕ). text_in (take (w + (n + 7) / 8) pool) w k) e ∙ same_text))
