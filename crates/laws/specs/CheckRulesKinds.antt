-- What the forms want and bind, as the rules say it and as checking computes it: the same. Assumes nothing.
use Rattle.std.specs.Prelude.{◌≡◌, refl, Bool, true, false, not, ◌&&◌, ◌||◌, List, [], ◌∷◌}
use Rattle.std.proofs.Common.{sym, ◌∙◌, ap, subst, true≢false}
use Rattle.std.proofs.lemmas.Bool.{false≢true}
use Rattle.definitions.specs.Shape.{Kind, rank, among, Numeric, no_number, int_only, int_and_dec, Shape, shape, Element, no_list, list_of}
use Rattle.definitions.specs.Shape.{Record, no_rec, rec_of, has_int, has_dec, has_list, has_rec, has, element_of, record_of}
use Rattle.definitions.specs.Reader.{Conversion, Test}
use Rattle.definitions.specs.Checking.{convert_kinds, convert_shape, element_shape, test_kinds, stay_numeric, stay_element, stay_record, stay}
use Rattle.definitions.specs.Checking.{cut_to, taken_out}
use Rattle.laws.specs.OrderLaws.{numeric_eq}
use Rattle.laws.specs.CheckRules.{Converts, by_int, by_bool, by_text, by_dec, ElementShape, element, absent, Means, HoldsAs, Cut, TakenOut}

-- ---- conversions, elements, kinds

pub converts : (c : Conversion) → Converts c (convert_kinds c) (convert_shape c)
unfolding convert_kinds convert_shape
converts Conversion.to_int = by_int
converts Conversion.to_dec = by_dec
converts Conversion.to_bool = by_bool
converts Conversion.to_text = by_text

pub converts_as : {c : Conversion} {ks : List Kind} {t : Shape} → Converts c ks t → (convert_kinds c ≡ ks) × (convert_shape c ≡ t)
unfolding convert_kinds convert_shape
converts_as by_int = (refl, refl)
converts_as by_bool = (refl, refl)
converts_as by_text = (refl, refl)
converts_as by_dec = (refl, refl)

pub element_is : (s : Shape) → ElementShape s (element_shape (element_of s))
unfolding element_shape
element_is s = go (element_of s) refl
  where
    go : (e : Element) → element_of s ≡ e → ElementShape s (element_shape e)
    go no_list h = absent h
    go (list_of t) h = element h

pub element_as : {s e : Shape} → ElementShape s e → element_shape (element_of s) ≡ e
unfolding element_shape
element_as (element h) = ap element_shape h
element_as (absent h) = ap element_shape h

pub means : (k : Test) → Means k (test_kinds k)
unfolding test_kinds
means Test.null = Means.null
means Test.bool = Means.bool
means Test.int = Means.int
means Test.num = Means.num
means Test.text = Means.text
means Test.list = Means.list
means Test.rec = Means.rec

pub means_as : {k : Test} {ks : List Kind} → Means k ks → test_kinds k ≡ ks
unfolding test_kinds
means_as Means.null = refl
means_as Means.bool = refl
means_as Means.int = refl
means_as Means.num = refl
means_as Means.text = refl
means_as Means.list = refl
means_as Means.rec = refl

-- ---- a shape is told by its kinds and what list and rec hold

element_same
    : (a b e : Element) → has_list a ≡ has_list b → (has_list a ≡ true → a ≡ e) → (has_list b ≡ true → b ≡ e) → a ≡ b
unfolding has_list
element_same no_list no_list e h f g = refl
element_same no_list (list_of y) e h f g = absurd (false≢true h)
element_same (list_of x) no_list e h f g = absurd (true≢false h)
element_same (list_of x) (list_of y) e h f g = f refl ∙ sym (g refl)

record_same
    : (a b e : Record) → has_rec a ≡ has_rec b → (has_rec a ≡ true → a ≡ e) → (has_rec b ≡ true → b ≡ e) → a ≡ b
unfolding has_rec
record_same no_rec no_rec e h f g = refl
record_same no_rec (rec_of y) e h f g = absurd (false≢true h)
record_same (rec_of x) no_rec e h f g = absurd (true≢false h)
record_same (rec_of x) (rec_of y) e h f g = f refl ∙ sym (g refl)

shape_same : (s t u : Shape) → HoldsAs s t → HoldsAs s u → ((j : Kind) → has j t ≡ has j u) → t ≡ u
unfolding has element_of record_of
shape_same s (shape n b m t e r) (shape n' b' m' t' e' r') f g h =
    ap (λ (x : Bool). shape x b m t e r) (h Kind.null)
    ∙ ap (λ (x : Bool). shape n' x m t e r) (h Kind.bool)
    ∙ ap (λ (x : Numeric). shape n' b' x t e r) (numeric_eq m m' (h Kind.int) (h Kind.dec))
    ∙ ap (λ (x : Bool). shape n' b' m' x e r) (h Kind.text)
    ∙ ap (λ (x : Element). shape n' b' m' t' x r) (element_same e e' (element_of s) (h Kind.list) f.element g.element)
    ∙ ap (λ (x : Record). shape n' b' m' t' e' x) (record_same r r' (record_of s) (h Kind.rec) f.members g.members)

-- ---- what stays

stay_holds : (kept : Kind → Bool) (s : Shape) → HoldsAs s (stay kept s)
unfolding has element_of record_of stay stay_element stay_record has_list has_rec
stay_holds kept (shape n b m t e r) = record { element = by_list (kept Kind.list); members = by_rec (kept Kind.rec) }
  where
    by_list : (b : Bool) → has_list (stay_element b e) ≡ true → stay_element b e ≡ e
    by_list true h = refl
    by_list false h = absurd (false≢true h)

    by_rec : (b : Bool) → has_rec (stay_record b r) ≡ true → stay_record b r ≡ r
    by_rec true h = refl
    by_rec false h = absurd (false≢true h)

flip : (a b : Bool) → a && b ≡ b && a
flip true true = refl
flip true false = refl
flip false true = refl
flip false false = refl

stay_int : (i d : Bool) (m : Numeric) → has_int (stay_numeric i d m) ≡ has_int m && (i || (has_dec m && d))
unfolding has_int has_dec stay_numeric
stay_int i d no_number = refl
stay_int true d int_only = refl
stay_int false d int_only = refl
stay_int true true int_and_dec = refl
stay_int true false int_and_dec = refl
stay_int false true int_and_dec = refl
stay_int false false int_and_dec = refl

stay_dec : (i d : Bool) (m : Numeric) → has_dec (stay_numeric i d m) ≡ has_dec m && d
unfolding has_dec stay_numeric
stay_dec i d no_number = refl
stay_dec true d int_only = refl
stay_dec false d int_only = refl
stay_dec true true int_and_dec = refl
stay_dec true false int_and_dec = refl
stay_dec false true int_and_dec = refl
stay_dec false false int_and_dec = refl

stay_list : (b : Bool) (e : Element) → has_list (stay_element b e) ≡ has_list e && b
unfolding has_list stay_element
stay_list true no_list = refl
stay_list true (list_of s) = refl
stay_list false no_list = refl
stay_list false (list_of s) = refl

stay_rec : (b : Bool) (r : Record) → has_rec (stay_record b r) ≡ has_rec r && b
unfolding has_rec stay_record
stay_rec true no_rec = refl
stay_rec true (rec_of s) = refl
stay_rec false no_rec = refl
stay_rec false (rec_of s) = refl

-- ---- cutting

-- dec is never of K without int
without_dec : (i : Bool) (m : Numeric) → has_int (stay_numeric i false m) ≡ has_int m && i
unfolding has_int stay_numeric
without_dec i no_number = refl
without_dec true int_only = refl
without_dec false int_only = refl
without_dec true int_and_dec = refl
without_dec false int_and_dec = refl

cut_int
    : (k : Test) (m : Numeric)
    → has_int (stay_numeric (among Kind.int (test_kinds k)) (among Kind.dec (test_kinds k)) m) ≡ has_int m && among Kind.int (test_kinds k)
unfolding test_kinds among rank has_int stay_numeric
cut_int Test.null m = without_dec false m
cut_int Test.bool m = without_dec false m
cut_int Test.int m = without_dec true m
cut_int Test.num no_number = refl
cut_int Test.num int_only = refl
cut_int Test.num int_and_dec = refl
cut_int Test.text m = without_dec false m
cut_int Test.list m = without_dec false m
cut_int Test.rec m = without_dec false m

cut_kinds : (k : Test) (s : Shape) (j : Kind) → has j (cut_to k s) ≡ has j s && among j (test_kinds k)
unfolding cut_to stay has
cut_kinds k (shape n b m t e r) Kind.null = flip _ n
cut_kinds k (shape n b m t e r) Kind.bool = flip _ b
cut_kinds k (shape n b m t e r) Kind.int = cut_int k m
cut_kinds k (shape n b m t e r) Kind.dec = stay_dec (among Kind.int (test_kinds k)) _ m
cut_kinds k (shape n b m t e r) Kind.text = flip _ t
cut_kinds k (shape n b m t e r) Kind.list = stay_list _ e
cut_kinds k (shape n b m t e r) Kind.rec = stay_rec _ r

pub cuts : (k : Test) (s : Shape) → Cut (test_kinds k) s (cut_to k s)
unfolding cut_to
cuts k s = record { kinds = cut_kinds k s; holds = stay_holds (λ j. among j (test_kinds k)) s }

pub cuts_as : {k : Test} {ks : List Kind} {s t : Shape} → Means k ks → Cut ks s t → cut_to k s ≡ t
cuts_as {k} {ks} {s} {t} m c =
    let d : Cut (test_kinds k) s t = subst (λ (x : List Kind). Cut x s t) (sym (means_as m)) c in
    shape_same s (cut_to k s) t (cuts k s).holds d.holds λ j. cut_kinds k s j ∙ sym (d.kinds j)

-- ---- taking out

or_nothing : (a b : Bool) → b && a ≡ b && (a || false)
or_nothing true b = refl
or_nothing false b = refl

flip_or : (a b : Bool) → a && b ≡ b && (a || false)
flip_or a b = flip a b ∙ or_nothing a b

taken_kinds
    : (k : Test) (s : Shape) (j : Kind)
    → has j (taken_out k s)
    ≡ has j s && (not (among j (test_kinds k)) || (among j (Kind.int ∷ []) && has Kind.dec s && not (among Kind.dec (test_kinds k))))
unfolding taken_out stay has among rank
taken_kinds k (shape n b m t e r) Kind.null = flip_or (not (among Kind.null (test_kinds k))) n
taken_kinds k (shape n b m t e r) Kind.bool = flip_or (not (among Kind.bool (test_kinds k))) b
taken_kinds k (shape n b m t e r) Kind.int = stay_int _ _ m
taken_kinds k (shape n b m t e r) Kind.dec = stay_dec _ _ m ∙ or_nothing _ (has_dec m)
taken_kinds k (shape n b m t e r) Kind.text = flip_or (not (among Kind.text (test_kinds k))) t
taken_kinds k (shape n b m t e r) Kind.list = stay_list _ e ∙ or_nothing _ (has_list e)
taken_kinds k (shape n b m t e r) Kind.rec = stay_rec _ r ∙ or_nothing _ (has_rec r)

pub takes : (k : Test) (s : Shape) → TakenOut (test_kinds k) s (taken_out k s)
unfolding taken_out
takes k s = record { kinds = taken_kinds k s; holds = stay_holds (λ j. not (among j (test_kinds k))) s }

pub takes_as : {k : Test} {ks : List Kind} {s t : Shape} → Means k ks → TakenOut ks s t → taken_out k s ≡ t
takes_as {k} {ks} {s} {t} m c =
    let d : TakenOut (test_kinds k) s t = subst (λ (x : List Kind). TakenOut x s t) (sym (means_as m)) c in
    shape_same s (taken_out k s) t (takes k s).holds d.holds λ j. taken_kinds k s j ∙ sym (d.kinds j)
