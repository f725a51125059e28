-- A list's elements and a record's members as parts, and how the loop over their rows writes them. Assumes nothing.
use Prim.Native.Nat.{ℕ, ◌+◌, ◌*◌, ◌≤◌, ◌<◌}
use native.Mathlib.Omega.{arith}
use mathlib.Core.Path.{◌≡◌, refl, sym, ap, ◌∙◌}
use mathlib.Core.Bool.{Bool, true, false}
use mathlib.Core.List.{List, [], ◌++◌, append_assoc, append-nil}
use mathlib.Core.Option.{Option, none, some}
use borrow.Author.Tests.{lt-ltb, le-ltb}
use lib.Dec.{ltb}
use lib.ListN.{length, drop, length-append}
use lib.Seq.{drop-drop, drop_at}
use Rattle.definitions.specs.Bytes.{Bytes, bytes}
use Rattle.definitions.specs.Value.{Value, Items, no_items, item, Members, no_members, member, size}
use Rattle.definitions.specs.Plain.{plain, plain_text, plain_items, plain_members}
use Rattle.text.specs.Writes.{Writes}
use Rattle.nodes.specs.Nodes.{ItemRows, no_item_rows, item_rows, MemberRows, no_member_rows, member_rows}
use Rattle.nodes.specs.NodesLaws.{length_rows}
use Rattle.nodes.specs.StandingLaws.{size_some}
use Rattle.plain.specs.Table.{BoundedNumbers, BoundedItems, BoundedMembers, SomeValueStands, Holds}
use Rattle.plain.specs.Parts.{Parts, no_parts, part, comma, label, plain_parts, unlabeled, labeled}
use Rattle.plain.specs.Parts.{PartRows, no_part_rows, part_rows, HoldsParts, HoldsLabel}
use Rattle.plain.proofs.Writing.{writes_none, writes_then, writes_as}
use Rattle.plain.proofs.Rows.{stands_name, stands_within, list_apart, rec_apart, Opens, opens}

-- ---- items and members as parts

pub of_items : Items → Parts
of_items no_items = no_parts
of_items (item v vs) = part none v (of_items vs)

pub of_members : Members → Parts
of_members no_members = no_parts
of_members (member n v ms) = part (some n) v (of_members ms)

plain_of_items : (b : Bool) (vs : Items) → plain_items (comma b) vs ≡ plain_parts b (of_items vs)
unfolding plain plain_parts label comma of_items
plain_of_items b no_items = refl
plain_of_items b (item v vs) = rw (append-nil (comma b)) (ap (λ (s : Bytes). comma b ++ plain v ++ s) (plain_of_items true vs))

plain_of_members : (b : Bool) (ms : Members) → plain_members (comma b) ms ≡ plain_parts b (of_members ms)
unfolding plain plain_parts label comma of_members
plain_of_members b no_members = refl
plain_of_members b (member n v ms) =
    rw (append_assoc (comma b) (plain_text n) (bytes ":"))
    (ap (λ (s : Bytes). comma b ++ (plain_text n ++ bytes ":") ++ plain v ++ s) (plain_of_members true ms))

pub plain_list : (vs : Items) → bytes "[" ++ plain_parts false (of_items vs) ++ bytes "]" ≡ plain (Value.list vs)
unfolding plain comma
plain_list vs = ap (λ (s : Bytes). bytes "[" ++ s ++ bytes "]") (sym (plain_of_items false vs))

pub plain_rec : (ms : Members) → bytes "{" ++ plain_parts false (of_members ms) ++ bytes "}" ≡ plain (Value.rec ms)
unfolding plain comma
plain_rec ms = ap (λ (s : Bytes). bytes "{" ++ s ++ bytes "}") (sym (plain_of_members false ms))

rows_of_items : {p rs : List ℕ} {vs : Items} → ItemRows p vs rs → BoundedItems vs → PartRows p false (of_items vs) rs
unfolding of_items BoundedNumbers
rows_of_items no_item_rows b = no_part_rows
rows_of_items (item_rows r s) b = part_rows unlabeled r b.0 (rows_of_items s b.1)

rows_of_members : {p rs : List ℕ} {ms : Members} → MemberRows p ms rs → BoundedMembers ms → PartRows p true (of_members ms) rs
unfolding of_members BoundedNumbers
rows_of_members no_member_rows b = no_part_rows
rows_of_members (member_rows n r s) b = part_rows (labeled n) r b.0 (rows_of_members s b.1)

module _ {nodes pool : List ℕ} {row : ℕ} where
  holds_inner
      : {named : Bool} {v : Value} {ps : Parts} {qs : List ℕ} (h : Holds nodes pool row v)
      → Opens nodes row v qs h.stands.rest → PartRows h.used named ps qs
      → HoldsParts nodes pool named (row + 3) (row + 3 * size v) ps
  holds_inner h o r =
      record { used = h.used; rows = _; rest = h.stands.rest; encoded = r; placed = o.inner; ends = o.ends; pooled = h.pooled }

  pub list_parts
      : (vs : Items) → Holds nodes pool row (Value.list vs)
      → HoldsParts nodes pool false (row + 3) (row + 3 * size (Value.list vs)) (of_items vs)
  unfolding BoundedNumbers
  list_parts vs h =
      let a = list_apart h.stands.encoded in holds_inner h (opens h.stands a.2) (rows_of_items a.1 h.bounded)

  pub rec_parts
      : (ms : Members) → Holds nodes pool row (Value.rec ms)
      → HoldsParts nodes pool true (row + 3) (row + 3 * size (Value.rec ms)) (of_members ms)
  unfolding BoundedNumbers
  rec_parts ms h =
      let a = rec_apart h.stands.encoded in
      holds_inner h (opens h.stands a.2) (rows_of_members a.1 h.bounded)

-- ---- the first of the parts

pub record First (nodes pool : List ℕ) (named : Bool) (i end : ℕ) (ps : Parts) : Type 0 where
  pub name : Option Bytes
  pub value : Value
  pub rest : Parts
  pub same : ps ≡ part name value rest
  pub labels : HoldsLabel nodes pool named i name
  pub holds : Holds nodes pool i value
  pub more : HoldsParts nodes pool named (i + 3 * size value) end rest

module _ {nodes pool : List ℕ} {named : Bool} {i end : ℕ} {ps : Parts} (h : HoldsParts nodes pool named i end ps) where
  pub first : i < end → First nodes pool named i end ps
  first more = go h.encoded h.placed h.ends
    where
      go
          : {qs : Parts} {rs : List ℕ} → PartRows h.used named qs rs → drop i nodes ≡ rs ++ h.rest → i + length rs ≡ end
          → First nodes pool named i end qs
      go no_part_rows e l = absurd (let z : ⊥ = omega arith in z)
      go (part_rows {n = n} {k = k} {v = v} {ps = ps'} {rs = rs} {qs = qs} b r f s) e l =
          record {
            name = n;
            value = v;
            rest = ps';
            same = refl;
            labels = record {
              used = h.used;
              name = k;
              labels = b;
              within = omega (arith, stands_within stands, size_some v);
              placed = stands_name stands;
              pooled = h.pooled;
            };
            holds = record { used = h.used; stands = stands; pooled = h.pooled; bounded = f };
            more = record {
              used = h.used;
              rows = qs;
              rest = h.rest;
              encoded = s;
              placed = sym (drop-drop (3 * size v) i nodes)
                  ∙ ap (drop (3 * size v)) stands.placed
                  ∙ drop_at rs (qs ++ h.rest) (3 * size v) (length_rows r);
              ends = omega (arith, length-append rs qs, length_rows r);
              pooled = h.pooled;
            };
          }
        where
          stands : SomeValueStands nodes h.used i v
          stands = record { name = k; rows = rs; rest = qs ++ h.rest; encoded = r; placed = e ∙ append_assoc rs qs h.rest }

  pub none_left : (b : Bool) → end ≤ i → plain_parts b ps ≡ []
  unfolding plain_parts
  none_left b past = go h.encoded h.ends
    where
      go : {qs : Parts} {rs : List ℕ} → PartRows h.used named qs rs → i + length rs ≡ end → plain_parts b qs ≡ []
      go no_part_rows l = refl
      go (part_rows {v = v} {rs = rs} {qs = qs} a r f s) l =
          absurd (let z : ⊥ = omega (arith, length-append rs qs, length_rows r, size_some v) in z)

pub length_part
    : {nodes pool : List ℕ} {named : Bool} {i end : ℕ} {ps : Parts} (f : First nodes pool named i end ps) (b : Bool)
    → length (plain_parts b ps)
    ≡ length (comma b ++ label f.name) + length (plain f.value) + length (plain_parts true f.rest)
unfolding plain_parts
length_part f b =
    ap (λ (qs : Parts). length (plain_parts b qs)) f.same
    ∙ length-append (comma b ++ label f.name ++ plain f.value) (plain_parts true f.rest)
    ∙ ap (λ (n : ℕ). n + length (plain_parts true f.rest)) (length-append (comma b ++ label f.name) (plain f.value))

-- ---- the loop

-- ps are the parts from a row on; those left at row i are to be written at place j, behind what is done
pub record Going
    (nodes pool : List ℕ) (named : Bool) (row end : ℕ) (out₀ : Bytes) (at : ℕ) (ps : Parts) (out : Bytes) (i j : ℕ)
    : Type 0 where
  pub done : Bytes
  pub left : Parts
  pub written : Writes out₀ out at done j
  pub holds : HoldsParts nodes pool named i end left
  pub whole : done ++ plain_parts (ltb row i) left ≡ plain_parts false ps

pub goes
    : {nodes pool : List ℕ} {named : Bool} {row end : ℕ} (out : Bytes) (at : ℕ) {ps : Parts}
    → HoldsParts nodes pool named row end ps → Going nodes pool named row end out at ps out row at
goes {row = row} out at {ps} h =
    record {
      done = [];
      left = ps;
      written = writes_none out at;
      holds = h;
      whole = ap (λ (b : Bool). plain_parts b ps) (le-ltb row row (omega arith));
    }

module _ {nodes pool : List ℕ} {named : Bool} {row end : ℕ} {out₀ : Bytes} {at : ℕ} {ps : Parts} {out : Bytes} {i j : ℕ} where
  -- one part more
  pub goes_on
      : {out₁ out₂ : Bytes} {j₁ j₂ n : ℕ}
      → at ≤ length out₀ → row ≤ i
      → (g : Going nodes pool named row end out₀ at ps out i j) (f : First nodes pool named i end g.left)
      → Writes out out₁ j (comma (ltb row i) ++ label f.name) j₁
      → Writes out₁ out₂ j₁ (plain f.value) j₂
      → n ≡ 3 * size f.value
      → Going nodes pool named row end out₀ at ps out₂ (i + n) j₂
  unfolding plain_parts
  goes_on {n = n} h k g f w x e =
      record {
        done = g.done ++ (comma (ltb row i) ++ label f.name) ++ plain f.value;
        left = f.rest;
        written = writes_then h (writes_then h g.written w) x;
        holds = rw e f.more;
        whole = ap (λ (b : Bool). g.done ++ (comma (ltb row i) ++ label f.name) ++ plain f.value ++ plain_parts b f.rest)
            (lt-ltb row (i + n) (omega (arith, size_some f.value)))
            ∙ ap (λ (s : Bytes). s ++ plain_parts true f.rest)
            (append_assoc g.done (comma (ltb row i) ++ label f.name) (plain f.value))
            ∙ append_assoc g.done (comma (ltb row i) ++ label f.name ++ plain f.value) (plain_parts true f.rest)
            ∙ ap (λ (qs : Parts). g.done ++ plain_parts (ltb row i) qs) (sym f.same)
            ∙ g.whole;
      }

  -- the end
  pub gone : Going nodes pool named row end out₀ at ps out i j → end ≤ i → Writes out₀ out at (plain_parts false ps) j
  gone g past =
      writes_as
      (sym (append-nil g.done) ∙ ap (λ (s : Bytes). g.done ++ s) (sym (none_left g.holds (ltb row i) past)) ∙ g.whole)
      g.written
