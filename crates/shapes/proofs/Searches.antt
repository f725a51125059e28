-- The search for a member, row by row. Assumes nothing.
use Prim.Native.Nat.{ℕ, ◌+◌, ◌/◌, ◌%◌, ◌≤◌, ◌<◌}
use mathlib.Core.Path.{◌≡◌, refl, sym, ap, ◌∙◌, subst}
use mathlib.Core.Bool.{Bool, true, false}
use mathlib.Core.List.{List}
use mathlib.Core.Option.{none}
use native.Mathlib.Omega.{arith}
use lib.ListN.{length, get_or}
use Rattle.definitions.specs.Bytes.{Bytes, same}
use Rattle.definitions.specs.Shape.{Shape, Fields, no_fields, field, find}
use Rattle.laws.specs.Fields.{find_here, find_there, find_none}
use Rattle.pool.specs.Pool.{text_in}
use Rattle.shapes.specs.Shapes.{FieldsStand, size_at}
use Rattle.shapes.specs.ShapesLaws.{forms_some, stands_size, stands_name, stands_row, SomeFields, some_fields}
use Rattle.shapes.specs.ShapesLaws.{fields_left, fields_some, fields_first, fields_rest, fields_end}
use Rattle.shapes.specs.Members.{Listed, SomeListed, Last, all_of, behind_first, Found_at}
use Rattle.nodes.specs.StandingLaws.{text_referred, referred_whole, compared_parts}

-- what is left to search at a row: the name of n bytes at word w is none of those before
pub record Left (shapes pool : List ℕ) (end w n : ℕ) (p : List ℕ) (fs : Fields) (row : ℕ) : Type 0 where
  pub others : Fields
  pub listed : Listed shapes pool row end p others
  pub last : Last fs others
  pub alike : find (text_in pool w n) fs ≡ find (text_in pool w n) others

last_trans : {fs gs hs : Fields} → Last fs gs → Last gs hs → Last fs hs
last_trans all_of g = g
last_trans (behind_first f) g = behind_first (last_trans f g)

pub record Searching (shapes pool : List ℕ) (from end w n row : ℕ) : Type 0 where
  pub left : (p : List ℕ) (fs : Fields) → Listed shapes pool from end p fs → Left shapes pool end w n p fs row

-- the answer to whether the shape at a row has the name t
pub record Asked (shapes pool : List ℕ) (row : ℕ) (t : Bytes) (b : Bool) : Type 0 where
  pub told : b ≡ same t (text_in pool (get_or shapes (row + 1) 0 % 65536) (get_or shapes (row + 1) 0 / 65536))

pub asked
    : {shapes pool : List ℕ} {row : ℕ} (a : ℕ) {w s n x y : ℕ} {b : Bool} → w ≡ a % 65536 → s ≡ a / 65536 → n ≡ length (text_in pool w s)
    → x ≡ get_or shapes (row + 1) 0 % 65536
    → y ≡ get_or shapes (row + 1) 0 / 65536
    → b ≡ same (text_in pool w n) (text_in pool x y)
    → Asked shapes pool row (text_in pool (a % 65536) (a / 65536)) b
asked {shapes} {pool} {row} a e f g h i q = record { told = compared_parts pool a (get_or shapes (row + 1) 0) e f g h i q }

-- ---- one member

-- the row of the first member is there
pub fields_step
    : {shapes p : List ℕ} {row end : ℕ} {fs : Fields} → FieldsStand shapes p row end fs → row < end
    → (2 ≤ size_at shapes row) × (row + size_at shapes row ≤ end) × (row + 2 ≤ length shapes)
fields_step {shapes} {p} {row} {end} h more = go h (fields_left h more)
  where
    go
        : {gs : Fields} → FieldsStand shapes p row end gs → SomeFields gs
        → (2 ≤ size_at shapes row) × (row + size_at shapes row ≤ end) × (row + 2 ≤ length shapes)
    go k (some_fields {s}) = (
      omega (arith, forms_some s, stands_size (fields_first k).2),
      omega (arith, fields_end (fields_rest k)),
      stands_row (fields_first k).2,
    )

module _ {shapes pool p : List ℕ} {row end : ℕ} where
  asked_first
      : {m : Bytes} {s : Shape} {fs : Fields} (t : Bytes) {b : Bool} → Listed shapes pool row end p (field m s fs)
      → Asked shapes pool row t b
      → same t m ≡ b
  asked_first t l a =
      let f = fields_first l.stand in
      sym
      (a.told
      ∙ ap (λ (y : ℕ). same t (text_in pool (y % 65536) (y / 65536))) (stands_name f.2)
      ∙ ap (λ (u : Bytes). same t u) (text_referred pool l.front l.small f.1))

  -- its name is whole in the pool
  whole_by
      : {fs : Fields} → Listed shapes pool row end p fs → SomeFields fs
      → length (text_in pool (get_or shapes (row + 1) 0 % 65536) (get_or shapes (row + 1) 0 / 65536)) ≡ get_or shapes (row + 1) 0 / 65536
  whole_by l some_fields =
      let f = fields_first l.stand in
      subst (λ (x : ℕ). length (text_in pool (x % 65536) (x / 65536)) ≡ x / 65536) (sym (stands_name f.2))
      (referred_whole pool l.front l.small f.1)

  found_by
      : {fs : Fields} (t : Bytes) → Listed shapes pool row end p fs → SomeFields fs → Asked shapes pool row t true
      → Found_at shapes p end t fs row
  found_by t l (some_fields {n = m} {s} {fs}) a =
      let f = fields_first l.stand in
      record {
        name = f.0;
        shape = s;
        found = find_here t m s fs (asked_first t l a);
        stands = f.2;
        before = fields_some l.stand;
        label = m;
        others = fs;
        alike = asked_first t l a;
        last = all_of;
        stand = l.stand;
      }

  next_by
      : {fs : Fields} (w n : ℕ) → Listed shapes pool row end p fs → SomeFields fs → Asked shapes pool row (text_in pool w n) false
      → Left shapes pool end w n p fs (row + size_at shapes row)
  next_by w n l (some_fields {n = m} {s} {fs}) a =
      record {
        others = fs;
        listed = record { stand = fields_rest l.stand; front = l.front; small = l.small };
        last = behind_first all_of;
        alike = find_there (text_in pool w n) m s fs (asked_first (text_in pool w n) l a);
      }

  none_by : {fs : Fields} (t : Bytes) → Listed shapes pool row end p fs → end ≤ row → find t fs ≡ none
  none_by {fs = no_fields} t l h = find_none t
  none_by {fs = field m s fs} t l h = absurd (let z : ⊥ = omega (arith, fields_some l.stand) in z)

-- ---- the search

module _ {shapes pool : List ℕ} {from end w n : ℕ} where
  pub searching : Searching shapes pool from end w n from
  searching = record { left = λ p fs l. record { others = fs; listed = l; last = all_of; alike = refl } }

  module _ {row : ℕ} where
    pub step_sizes
        : SomeListed shapes pool from end → Searching shapes pool from end w n row → row < end
        → (2 ≤ size_at shapes row) × (row + size_at shapes row ≤ end) × (row + 2 ≤ length shapes)
    step_sizes k v h = fields_step (v.left k.used k.fields k.listed).listed.stand h

    pub step_whole
        : SomeListed shapes pool from end → Searching shapes pool from end w n row → row < end
        → length (text_in pool (get_or shapes (row + 1) 0 % 65536) (get_or shapes (row + 1) 0 / 65536)) ≡ get_or shapes (row + 1) 0 / 65536
    step_whole k v h = let l = (v.left k.used k.fields k.listed).listed in whole_by l (fields_left l.stand h)

    pub found_Here
        : Searching shapes pool from end w n row → row < end → {b : Bool} → Asked shapes pool row (text_in pool w n) b → b ≡ true
        → (p : List ℕ) (fs : Fields)
        → Listed shapes pool from end p fs
        → Found_at shapes p end (text_in pool w n) fs row
    found_Here v h a e p fs r =
        let here = v.left p fs r in
        let at =
        found_by (text_in pool w n) here.listed (fields_left here.listed.stand h) (record { told = sym e ∙ a.told })
        in
        record {
          name = at.name;
          shape = at.shape;
          found = here.alike ∙ at.found;
          stands = at.stands;
          before = at.before;
          label = at.label;
          others = at.others;
          alike = at.alike;
          last = last_trans here.last at.last;
          stand = at.stand;
        }

    pub searched_on
        : Searching shapes pool from end w n row → row < end → {b : Bool} → Asked shapes pool row (text_in pool w n) b → b ≡ false
        → {size : ℕ}
        → size ≡ size_at shapes row
        → Searching shapes pool from end w n (row + size)
    searched_on v h a e f =
        subst
        (λ (i : ℕ). Searching shapes pool from end w n (row + i))
        (sym f)
        (record {
          left = λ p fs r.
              let here = v.left p fs r in
              let next =
              next_by w n here.listed (fields_left here.listed.stand h) (record { told = sym e ∙ a.told })
              in
              record {
                others = next.others;
                listed = next.listed;
                last = last_trans here.last next.last;
                alike = here.alike ∙ next.alike;
              };
        })

    pub not_found
        : Searching shapes pool from end w n row → end ≤ row → (p : List ℕ) (fs : Fields) → Listed shapes pool from end p fs
        → find (text_in pool w n) fs ≡ none
    not_found v h p fs r = let here = v.left p fs r in here.alike ∙ none_by (text_in pool w n) here.listed h
