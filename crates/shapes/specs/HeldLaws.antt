-- Laws of what a shape table and a pool hold: the parts of a shape, and its members one by one. Assumes nothing.
use Rattle.std.specs.Prelude.{ℕ, ◌+◌, ◌/◌, ◌%◌, ◌≤◌, ◌<◌, ◌≡◌, refl, Bool, List, length, take, drop, get_or, Option}
use Rattle.std.proofs.Common.{sym, ap, ◌∙◌, subst, arith, take-append-drop, length-take-le}
use Rattle.definitions.specs.Bytes.{Bytes}
use Rattle.definitions.specs.Shape.{Kind, Numeric, Shape, shape, Element, list_of, Record, rec_of, Fields, no_fields, field, has}
use Rattle.pool.specs.Pool.{text_in}
use Rattle.shapes.specs.Shapes.{kind_bit, kind_bits, has_bit, ShapeRows, size_at, members_at}
use Rattle.shapes.specs.ShapesLaws.{has_kind, forms_some, stands_kinds, stands_size, stands_name, stands_within, stands_element}
use Rattle.shapes.specs.ShapesLaws.{stands_members, SomeFields, some_fields, fields_left, fields_first, fields_rest, fields_end, fields_some}
use Rattle.shapes.specs.Members.{Listed, SomeListed, Found_at, Names}
use Rattle.shapes.specs.Held.{HoldsShape, HoldsFields}
use Rattle.nodes.specs.StandingLaws.{text_referred}

-- ---- a table that was read

-- a shape in the first n words of the table, its names in the first words of the pool, which may have changed behind them
pub held_behind
    : (shapes pool pool' : List ℕ) (n top : ℕ) {m : ℕ} {s : Shape} → ShapeRows (take top pool) m s (take n shapes) → top ≤ length pool
    → top < 65536 → take top pool' ≡ take top pool → HoldsShape shapes pool' 0 s
held_behind shapes pool pool' n top {m} r h l e =
    record {
      used = take top pool;
      name = m;
      stands = record { rows = take n shapes; rest = drop n shapes; encoded = r; placed = sym (take-append-drop n shapes) };
      front = ap (λ (k : ℕ). take k pool') (length-take-le top pool h) ∙ e;
      small = omega (arith, length-take-le top pool h);
    }

pub held_front
    : (shapes pool : List ℕ) (n top : ℕ) {m : ℕ} {s : Shape} → ShapeRows (take top pool) m s (take n shapes) → top ≤ length pool
    → top < 65536 → HoldsShape shapes pool 0 s
held_front shapes pool n top r h l = held_behind shapes pool pool n top r h l refl

-- ---- a shape

module _ {shapes pool : List ℕ} {row : ℕ} {s : Shape} where
  pub held_kinds : HoldsShape shapes pool row s → get_or shapes row 0 % 128 ≡ kind_bits s
  held_kinds h = stands_kinds h.stands

  -- whether it has a kind
  pub held_has : (k : Kind) → HoldsShape shapes pool row s → has_bit (get_or shapes row 0 % 128) (kind_bit k) ≡ has k s
  held_has k h = ap (λ (x : ℕ). has_bit x (kind_bit k)) (held_kinds h) ∙ has_kind k s

  pub held_within : HoldsShape shapes pool row s → (2 ≤ size_at shapes row) × (row + size_at shapes row ≤ length shapes)
  held_within h =
      (omega (arith, stands_size h.stands, forms_some s), omega (arith, stands_size h.stands, stands_within h.stands))

module _ {shapes pool : List ℕ} {row : ℕ} {n b x : Bool} {m : Numeric} where
  pub held_element : {a : Shape} {r : Record} → HoldsShape shapes pool row (shape n b m x (list_of a) r) → HoldsShape shapes pool (row + 2) a
  held_element h = record { used = h.used; name = 0; stands = stands_element h.stands; front = h.front; small = h.small }

  pub held_members
      : {e : Element} {fs : Fields} → HoldsShape shapes pool row (shape n b m x e (rec_of fs))
      → HoldsFields shapes pool (members_at shapes row) (row + size_at shapes row) fs
  held_members h =
      record { used = h.used; listed = record { stand = stands_members h.stands; front = h.front; small = h.small } }

-- ---- members

pub some_listed : {shapes pool : List ℕ} {from to : ℕ} {fs : Fields} → HoldsFields shapes pool from to fs → SomeListed shapes pool from to
some_listed {fs} h = record { used = h.used; fields = fs; listed = h.listed }

-- where a search finds a member, its shape is held
pub found_held
    : {shapes pool : List ℕ} {from to : ℕ} {t : Bytes} {fs : Fields} {row : ℕ} (h : HoldsFields shapes pool from to fs)
    (f : Found_at shapes h.used to t fs row) → HoldsShape shapes pool row f.shape
found_held h f =
    record { used = h.used; name = f.name; stands = f.stands; front = h.listed.front; small = h.listed.small }

-- the first of the members from row i on
pub record FirstField (shapes pool : List ℕ) (i to : ℕ) (fs : Fields) : Type 0 where
  pub name : Bytes
  pub shape : Shape
  pub others : Fields
  pub same : fs ≡ field name shape others
  pub text : text_in pool (get_or shapes (i + 1) 0 % 65536) (get_or shapes (i + 1) 0 / 65536) ≡ name
  pub held : HoldsShape shapes pool i shape
  pub inside : i + size_at shapes i ≤ to
  pub more : HoldsFields shapes pool (i + size_at shapes i) to others

pub first_field : {shapes pool : List ℕ} {i to : ℕ} {fs : Fields} → HoldsFields shapes pool i to fs → i < to → FirstField shapes pool i to fs
first_field {shapes} {pool} {i} {to} h more = go h.listed (fields_left h.listed.stand more)
  where
    go : {gs : Fields} → Listed shapes pool i to h.used gs → SomeFields gs → FirstField shapes pool i to gs
    go l (some_fields {n} {s} {fs = os}) =
        let f = fields_first l.stand in
        record {
          name = n;
          shape = s;
          others = os;
          same = refl;
          text =
              ap (λ (y : ℕ). text_in pool (y % 65536) (y / 65536)) (stands_name f.2) ∙ text_referred pool l.front l.small f.1;
          held = record { used = h.used; name = f.0; stands = f.2; front = l.front; small = l.small };
          inside = omega (arith, fields_end (fields_rest l.stand));
          more = record { used = h.used; listed = record { stand = fields_rest l.stand; front = l.front; small = l.small } };
        }

pub no_field_left : {shapes pool : List ℕ} {i to : ℕ} {fs : Fields} → HoldsFields shapes pool i to fs → to ≤ i → fs ≡ no_fields
no_field_left {fs = no_fields} h past = refl
no_field_left {fs = field m s fs} h past = absurd (let z : ⊥ = omega (arith, fields_some h.listed.stand) in z)

pub members_within : {shapes pool : List ℕ} {from to : ℕ} {fs : Fields} → HoldsFields shapes pool from to fs → from ≤ to
members_within h = omega (arith, fields_end h.listed.stand)

-- ---- names

-- what a search tells of a reference that is read from a row
pub names_of
    : {shapes pool : List ℕ} {from end k m : ℕ} (r : Option ℕ) → k ≡ m → Names shapes from end pool k r → Names shapes from end pool m r
names_of {shapes} {pool} {from} {end} r e h = subst (λ (i : ℕ). Names shapes from end pool i r) e h
