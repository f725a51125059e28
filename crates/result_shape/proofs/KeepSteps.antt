-- What is left of a shape, joined into another part by part. Assumes nothing.
use Prim.Native.Nat.{ℕ, ◌+◌, ◌*◌, ◌%◌, ◌^◌, ◌≤◌, ◌<◌}
use native.Mathlib.Omega.{arith}
use native.Mathlib.Nat.{add-zero}
use mathlib.Core.Path.{◌≡◌, refl, sym, ap, subst, ◌∙◌}
use mathlib.Core.Bool.{Bool, true, false, not}
use mathlib.Core.List.{List, ◌∷◌, ◌++◌}
use lib.Bits.{bit_or}
use lib.ListN.{length, get_or, take, drop}
use Rattle.definitions.specs.Shape.{Kind, Shape, shape, Element, no_list, list_of, Record, no_rec, element_of, record_of, has, has_list, ascending, forms}
use Rattle.definitions.specs.Join.{join, join_element, join_record}
use Rattle.laws.specs.Bools.{clash, not_true, not_fails}
use Rattle.laws.specs.JoinLaws.{element_nothing, record_nothing}
use Rattle.shapes.specs.Shapes.{kind_bit, kind_bits, has_bit, head_of, size_at, ShapeRows}
use Rattle.shapes.specs.ShapesLaws.{has_kind, union_bits, stands_row}
use Rattle.join.specs.Joining.{Joins, Joinable, JoinsTo, join_records, join_elements}
use Rattle.join.specs.PartsLaws.{parts_joined, forms_parts, forms_records, records_ascend, kinds_twice}
use Rattle.join.specs.Replacing.{Put, Over, Becomes}
use Rattle.std.specs.Prelude.{Option}
use Rattle.std.specs.Prelude.{Some, None}
use Rattle.growing.specs.HeadLaws.{kept_put, SameParts, raise_fits, kinds_put}
use Rattle.checking.specs.Bindings.{Bound}
use Rattle.checking.specs.WantsLaws.{rec_there, rec_lacks}
use Rattle.result_shape.specs.ResultsLaws.{bound_ascends}
use Rattle.result_shape.specs.Giving.{Tables, MeetsKept, KeptAsked, GivesKept}
use Rattle.result_shape.proofs.Steps.{became, was_full, becomes_as, over_more, put_stands, put_within, put_tables, then_put, then_over}

-- ---- a kind that is left

list_there : (s : Shape) → has Kind.list s ≡ true → (a : Shape) × (element_of s ≡ list_of a)
unfolding has has_list element_of
list_there (shape n b m t no_list r) h = clash {b = false} h refl
list_there (shape n b m t (list_of a) r) h = (a, refl)

list_lacks : (s : Shape) → has Kind.list s ≡ false → element_of s ≡ no_list
unfolding has has_list element_of
list_lacks (shape n b m t no_list r) h = refl
list_lacks (shape n b m t (list_of a) r) h = clash {b = true} refl h

kind_left
    : {shapes p : List ℕ} {deep at kinds : ℕ} {t : Shape} (k : Kind) {x b : Bool} → Bound shapes p deep at kinds t → x ≡ has_bit kinds (kind_bit k)
    → x ≡ b → has k t ≡ b
kind_left {t = t} k h e f =
    sym (has_kind k t) ∙ ap (λ (n : ℕ). has_bit n (kind_bit k)) h.left ∙ sym e ∙ f

-- ---- the parts of what is left

records_left : (s t : Shape) → record_of t ≡ no_rec → join_records s t ≡ s
unfolding join_records
records_left (shape n b m x e r) t h = ap (shape n b m x e) (ap (join_record r) h ∙ record_nothing r)

elements_left : (s t : Shape) → element_of t ≡ no_list → join_elements s t ≡ s
unfolding join_elements
elements_left (shape n b m x e r) t h = ap (λ (f : Element). shape n b m x f r) (ap (join_element e) h ∙ element_nothing e)

records_same : (s t u : Shape) → record_of t ≡ record_of u → join_records s t ≡ join_records s u
unfolding join_records
records_same (shape n b m x e r) t u h = ap (λ (q : Record). shape n b m x e (join_record r q)) h

elements_same : (s t u : Shape) → element_of t ≡ element_of u → join_elements s t ≡ join_elements s u
unfolding join_elements
elements_same (shape n b m x e r) t u h = ap (λ (f : Element). shape n b m x (join_element e f) r) h

parts_same : (s t : Shape) → SameParts (parts_joined s t) (join s t)
unfolding join_elements join_records element_of record_of join forms
parts_same (shape n b k x e r) (shape n' b' k' x' e' r') = record { element = refl; fields = refl; counts = refl }

module _
    {shapes pool result p : List ℕ} {at kinds used dest deep : ℕ} {t : Shape} {name : ℕ} {s : Shape}
    (j : MeetsKept shapes pool result p at kinds used dest deep t name s)
    (tables : Tables shapes result used)
  where
    joins : Joins result shapes pool p used dest name at j.bound.name deep s j.bound.base
    joins =
        record {
          both = record { ours = j.stands; theirs = j.bound.stands; within = j.within; used_within = tables.enough };
          ours_ascend = j.ascends;
          theirs_ascend = j.bound.ascends;
          nests = j.bound.nests;
          pooled = j.pooled;
        }

    given_ascends : ascending t ≡ true
    given_ascends = bound_ascends j.bound

    pub members_none
        : {x : Bool} → x ≡ has_bit kinds 64 → not x ≡ true → Put result result used 0 dest (2 * forms s) (ShapeRows p name (join_records s t))
    unfolding kind_bit
    members_none {x} e d =
        becomes_as result result p used dest name s (Some 0)
        (sym (records_left s t (rec_lacks t (kind_left Kind.rec j.bound e (not_true x d)))))
        (kept_put j.stands j.within tables.enough)

    pub elements_none
        : {x : Bool} → x ≡ has_bit kinds 32 → not x ≡ true → Put result result used 0 dest (2 * forms s) (ShapeRows p name (join_elements s t))
    unfolding kind_bit
    elements_none {x} e d =
        becomes_as result result p used dest name s (Some 0)
        (sym (elements_left s t (list_lacks t (kind_left Kind.list j.bound e (not_true x d)))))
        (kept_put j.stands j.within tables.enough)

    pub members_some
        : {x : Bool} (result' : List ℕ) (o : Option ℕ) → x ≡ has_bit kinds 64 → not x ≡ false
        → JoinsTo join_records result result' shapes pool used dest at deep o
        → Becomes result result' p used dest name s (join_records s t) o
    unfolding kind_bit
    members_some {x} result' o e d q =
        let r = rec_there t (kind_left Kind.rec j.bound e (not_fails x d)) in
        becomes_as result result' p used dest name s o
        (records_same s j.bound.base t (j.bound.members r.0 r.1 ∙ sym r.1))
        (q p name j.bound.name s j.bound.base joins)

    pub elements_some
        : {x : Bool} (result' : List ℕ) (o : Option ℕ) → x ≡ has_bit kinds 32 → not x ≡ false
        → JoinsTo join_elements result result' shapes pool used dest at deep o
        → Becomes result result' p used dest name s (join_elements s t) o
    unfolding kind_bit
    elements_some {x} result' o e d q =
        let r = list_there t (kind_left Kind.list j.bound e (not_fails x d)) in
        becomes_as result result' p used dest name s o
        (elements_same s j.bound.base t (j.bound.element r.0 r.1 ∙ sym r.1))
        (q p name j.bound.name s j.bound.base joins)

    -- ---- one part behind the other

    pub members_full
        : {result₁ : List ℕ} → Over result result₁ used (2 * forms s) (2 * forms (join_records s t))
        → Over result result₁ used (2 * forms s) (2 * forms (join s t))
    members_full o = over_more s (join_records s t) (join s t) (forms_records s t j.ascends given_ascends) o

    module _ {result₁ : List ℕ} {words : ℕ} (q : Put result result₁ used words dest (2 * forms s) (ShapeRows p name (join_records s t))) where
      pub members_kept : MeetsKept shapes pool result₁ p at kinds (used + words) dest deep t name (join_records s t)
      members_kept =
          record {
            pooled = j.pooled;
            bound = j.bound;
            stands = put_stands j.stands j.within tables q;
            within = put_within j.stands j.within tables q;
            ascends = records_ascend s t j.ascends given_ascends;
          }

      pub elements_full
          : {result₂ : List ℕ} → Over result₁ result₂ (used + words) (2 * forms (join_records s t)) (2 * forms (parts_joined s t))
          → Over result result₂ used (2 * forms s) (2 * forms (join s t))
      elements_full o =
          over_more s (parts_joined s t) (join s t) (omega (arith, forms_parts s t))
          (then_over j.stands j.within tables q (parts_joined s t) o)

      module _ {result₂ : List ℕ} {more : ℕ}
          (v : Put result₁ result₂ (used + words) more dest (2 * forms (join_records s t)) (ShapeRows p name (parts_joined s t))) where
        both : Put result result₂ used (words + more) dest (2 * forms s) (ShapeRows p name (parts_joined s t))
        both = then_put j.stands j.within tables q v

        bits : bit_or (kind_bits (parts_joined s t)) kinds ≡ kind_bits (join s t)
        bits = ap (bit_or (kind_bits (parts_joined s t))) (sym j.bound.left) ∙ union_bits (parts_joined s t) t ∙ kinds_twice s t

        same : SameParts (parts_joined s t) (join s t)
        same = parts_same s t

        pub keep_fits : (dest < length result₂) × (head_of (bit_or (get_or result₂ dest 0 % 128) kinds) (size_at result₂ dest + 0) < 2 ^ 64)
        keep_fits =
            let x = put_stands j.stands j.within tables both in
            let y = put_tables j.stands j.within tables both in (
              omega (arith, stands_row x),
              raise_fits kinds 0 (join s t) x bits (omega (arith, same.counts))
                  (omega (arith, same.counts, put_within j.stands j.within tables both, y.enough, y.small)),
            )

        pub keep_grown : used + words + more ≤ 65536
        keep_grown = let y = put_tables j.stands j.within tables both in omega (arith, y.enough, y.small)

        pub keep_put
            : {result₃ : List ℕ}
            → result₃ ≡ take dest result₂ ++ head_of (bit_or (get_or result₂ dest 0 % 128) kinds) (size_at result₂ dest + 0) ∷ drop (dest + 1) result₂
            → length result₃ ≡ length result₂ → Put result result₃ used (words + more) dest (2 * forms s) (ShapeRows p name (join s t))
        keep_put {result₃} e l =
            let x = put_stands j.stands j.within tables both in
            let y = put_tables j.stands j.within tables both in
            let z = put_within j.stands j.within tables both in
            again
            (then_put j.stands j.within tables both (kinds_put kinds x z y.enough same bits l e))
          where
            again
                : Put result result₃ used (words + more + 0) dest (2 * forms s) (ShapeRows p name (join s t))
                → Put result result₃ used (words + more) dest (2 * forms s) (ShapeRows p name (join s t))
            again w = subst (λ (n : ℕ). Put result result₃ used n dest (2 * forms s) (ShapeRows p name (join s t))) (add-zero (words + more)) w

pub joinable
    : {shapes pool result : List ℕ} {at kinds used dest deep : ℕ} → KeptAsked shapes pool result at kinds used dest deep → Tables shapes result used
    → Joinable result shapes pool used dest at deep
joinable w tables =
    record {
      p = w.p;
      name = w.name;
      other_name = w.meets.bound.name;
      ours = w.old;
      theirs = w.meets.bound.base;
      joins = joins w.meets tables;
      small = tables.small;
    }

-- ---- the answers

module _ {shapes pool result : List ℕ} {at kinds used dest deep : ℕ} (tables : Tables shapes result used) (result₁ : List ℕ) (o₁ : Option ℕ)
    (q₁ : GivesKept join_records shapes pool result result₁ at kinds used dest deep o₁) where
  pub keep_full_first : o₁ ≡ None → GivesKept join shapes pool result result₁ at kinds used dest deep None
  keep_full_first e p t name s j =
      members_full j tables (was_full result result₁ p used dest name s (join_records s t) e (q₁ p t name s j))

  module _ {words : ℕ} (e₁ : o₁ ≡ Some words) where
    put₁
        : {p : List ℕ} {t : Shape} {name : ℕ} {s : Shape} → MeetsKept shapes pool result p at kinds used dest deep t name s
        → Put result result₁ used words dest (2 * forms s) (ShapeRows p name (join_records s t))
    put₁ {p} {t} {name} {s} j = became result result₁ p used dest name s (join_records s t) e₁ (q₁ p t name s j)

    pub keep_asked : KeptAsked shapes pool result at kinds used dest deep → KeptAsked shapes pool result₁ at kinds (used + words) dest deep
    keep_asked w =
        record {
          p = w.p;
          given = w.given;
          name = w.name;
          old = join_records w.old w.given;
          meets = members_kept w.meets tables (put₁ w.meets);
        }

    pub keep_tables : KeptAsked shapes pool result at kinds used dest deep → Tables shapes result₁ (used + words)
    keep_tables w = put_tables w.meets.stands w.meets.within tables (put₁ w.meets)

    module _ (result₂ : List ℕ) (o₂ : Option ℕ) (q₂ : GivesKept join_elements shapes pool result₁ result₂ at kinds (used + words) dest deep o₂) where
      pub keep_full_then : o₂ ≡ None → GivesKept join shapes pool result result₂ at kinds used dest deep None
      keep_full_then e p t name s j =
          elements_full j tables (put₁ j)
          (was_full result₁ result₂ p (used + words) dest name (join_records s t) (parts_joined s t) e
          (q₂ p t name (join_records s t) (members_kept j tables (put₁ j))))

      module _ {more : ℕ} (e₂ : o₂ ≡ Some more) where
        put₂
            : {p : List ℕ} {t : Shape} {name : ℕ} {s : Shape} → MeetsKept shapes pool result p at kinds used dest deep t name s
            → Put result₁ result₂ (used + words) more dest (2 * forms (join_records s t)) (ShapeRows p name (parts_joined s t))
        put₂ {p} {t} {name} {s} j =
            became result₁ result₂ p (used + words) dest name (join_records s t) (parts_joined s t) e₂
            (q₂ p t name (join_records s t) (members_kept j tables (put₁ j)))

        pub keep_raise
            : KeptAsked shapes pool result at kinds used dest deep
            → (dest < length result₂) × (head_of (bit_or (get_or result₂ dest 0 % 128) kinds) (size_at result₂ dest + 0) < 2 ^ 64)
        keep_raise w = keep_fits w.meets tables (put₁ w.meets) (put₂ w.meets)

        pub keep_words : KeptAsked shapes pool result at kinds used dest deep → used + words + more ≤ 65536
        keep_words w = keep_grown w.meets tables (put₁ w.meets) (put₂ w.meets)

        pub keep_answer
            : {result₃ : List ℕ}
            → result₃ ≡ take dest result₂ ++ head_of (bit_or (get_or result₂ dest 0 % 128) kinds) (size_at result₂ dest + 0) ∷ drop (dest + 1) result₂
            → length result₃ ≡ length result₂ → GivesKept join shapes pool result result₃ at kinds used dest deep (Some (words + more))
        keep_answer e l p t name s j = keep_put j tables (put₁ j) (put₂ j) e l
