-- Request Q-13: what checking does with shapes keeps their order: what `when` and `each` bind, what `field` reads, what the forms give.
-- Assumes nothing.
use Rattle.std.specs.Prelude.{◌≡◌, refl, ◌⊎◌, Bool, true, false, not, ◌||◌, [], ◌∷◌}
use Rattle.std.proofs.Common.{sym, ◌∙◌, subst, inl, inr}
use Rattle.std.proofs.lemmas.Bool.{false≢true}
use Rattle.std.proofs.Math.Option.{Option, some}
use Rattle.definitions.specs.Bytes.{Bytes, same}
use Rattle.definitions.specs.Shape.{Kind, all_kinds, among, every, Shape, shape, Element, no_list, list_of, rec_of, Fields, no_fields, nothing, has}
use Rattle.definitions.specs.Shape.{has_int, has_dec, has_list, has_rec, element_of, record_of, find, only_list, only_rec, ascending}
use Rattle.definitions.specs.Shape.{ascending_element, ascending_fields}
use Rattle.definitions.specs.Order.{kinds_in, below}
use Rattle.definitions.specs.Join.{with_null, join, insert}
use Rattle.definitions.specs.Reader.{Test}
use Rattle.definitions.specs.Checking.{gain_null, element_shape, test_kinds, stay_element, stay_record, stay, cut_to, taken_out}
use Rattle.laws.specs.Bools.{and_two, and_three, and_intro, or_cases, or_left, or_right, tell}
use Rattle.laws.specs.Names.{same_eq}
use Rattle.laws.specs.FieldsPut.{with_null_ascending, find_insert_here, find_insert_there, insert_ascending}
use Rattle.laws.specs.OrderInduction.{ascending_of_element}
use Rattle.laws.specs.OrderParts.{Kinds, Elements, AtName, Records, records_intro, below_kinds, below_elements, below_records, below_intro}
use Rattle.laws.specs.OrderLaws.{nothing_below, below_refl, below_trans}
use Rattle.laws.specs.JoinUpper.{with_null_has, with_null_upper, with_null_least}
use Rattle.laws.specs.JoinLaws.{nothing_ascending, join_ascending, join_mono}
use Rattle.laws.specs.SoundKinds.{cut_ascending, taken_ascending}
use Rattle.laws.specs.CheckRules.{int_stays}
use Rattle.laws.specs.CheckRulesKinds.{cuts, takes}

-- ---- two shapes of the paper, the first below the second

pub record Under (s t : Shape) : Type 0 where
  pub sorted : ascending s ≡ true
  pub sorted_above : ascending t ≡ true
  pub order : below s t ≡ true

-- the members of two records, alike
pub record UnderFields (fs gs : Fields) : Type 0 where
  pub sorted : ascending_fields fs ≡ true
  pub sorted_above : ascending_fields gs ≡ true
  pub names : (n : Bytes) → AtName (find n fs) (find n gs)

pub under_refl : (s : Shape) → ascending s ≡ true → Under s s
under_refl s a = record { sorted = a; sorted_above = a; order = below_refl s a }

-- ---- what forms give

pub under_join : {s t s' t' : Shape} → Under s s' → Under t t' → Under (join s t) (join s' t')
under_join {s} {t} {s'} {t'} h k =
    record {
      sorted = join_ascending s t h.sorted k.sorted;
      sorted_above = join_ascending s' t' h.sorted_above k.sorted_above;
      order = join_mono s t s' t' h.sorted k.sorted h.sorted_above k.sorted_above h.order k.order;
    }

pub under_list : {s t : Shape} → Under s t → Under (only_list (list_of s)) (only_list (list_of t))
unfolding ascending below kinds_in every all_kinds has has_int has_dec has_list has_rec only_list element_of record_of
under_list h =
    record { sorted = and_intro h.sorted refl; sorted_above = and_intro h.sorted_above refl; order = and_intro h.order refl }

pub under_rec : {fs gs : Fields} → UnderFields fs gs → Under (only_rec (rec_of fs)) (only_rec (rec_of gs))
unfolding ascending below kinds_in every all_kinds has has_int has_dec has_list has_rec only_rec element_of record_of
under_rec {fs} {gs} h =
    record {
      sorted = h.sorted;
      sorted_above = h.sorted_above;
      order = records_intro (rec_of fs) (rec_of gs) h.sorted h.sorted_above h.names;
    }

pub under_no_fields : UnderFields no_fields no_fields
unfolding ascending find
under_no_fields = record { sorted = refl; sorted_above = refl; names = λ n. tt }

-- one more pair of a pack
pub under_insert : {s t : Shape} {fs gs : Fields} (n : Bytes) → Under s t → UnderFields fs gs → UnderFields (insert n s fs) (insert n t gs)
under_insert {s} {t} {fs} {gs} n h k =
    record {
      sorted = insert_ascending n s fs h.sorted k.sorted;
      sorted_above = insert_ascending n t gs h.sorted_above k.sorted_above;
      names = λ m. at m (tell (same m n));
    }
  where
    BelowAt : Bytes → Type 0
    BelowAt m = AtName (find m (insert n s fs)) (find m (insert n t gs))

    here : BelowAt n
    here =
        subst (λ (o : Option Shape). AtName o (find n (insert n t gs))) (sym (find_insert_here n s fs k.sorted))
        (subst (AtName (some s)) (sym (find_insert_here n t gs k.sorted_above)) h.order)

    at : (m : Bytes) → (same m n ≡ true) ⊎ (same m n ≡ false) → BelowAt m
    at m (inl e) = subst BelowAt (sym (same_eq m n e)) here
    at m (inr e) =
        subst (λ (o : Option Shape). AtName o (find m (insert n t gs))) (sym (find_insert_there m n s fs e))
        (subst (AtName (find m fs)) (sym (find_insert_there m n t gs e)) (k.names m))

-- ---- what `field` gives

under_null : {s t : Shape} → Under s t → Under s (with_null t)
under_null {s} {t} h =
    let a = with_null_ascending t h.sorted_above in
    record {
      sorted = h.sorted;
      sorted_above = a;
      order = below_trans s t (with_null t) h.sorted h.sorted_above a h.order (with_null_upper t h.sorted_above);
    }

-- null is gained above where it is gained below
pub under_gained : {s t : Shape} (b c : Bool) → (b ≡ true → c ≡ true) → Under s t → Under (gain_null b s) (gain_null c t)
unfolding gain_null
under_gained true true f h =
    let k = under_null h in
    record {
      sorted = with_null_ascending _ h.sorted;
      sorted_above = k.sorted_above;
      order = with_null_least _ _ h.sorted k.sorted_above k.order (with_null_has _);
    }
under_gained true false f h = absurd (false≢true (f refl))
under_gained false true f h = under_null h
under_gained false false f h = h

-- ---- what `each` and `when` bind

-- "(the element is nothing where list is absent)"
pub under_element : {s t : Shape} → Under s t → Under (element_shape (element_of s)) (element_shape (element_of t))
unfolding element_shape ascending
under_element {s} {t} h =
    by (element_of s) (element_of t) (ascending_of_element s h.sorted) (ascending_of_element t h.sorted_above) (below_elements s t h.order)
  where
    by : (e f : Element) → ascending_element e ≡ true → ascending_element f ≡ true → Elements e f → Under (element_shape e) (element_shape f)
    by no_list no_list i j k = under_refl nothing nothing_ascending
    by no_list (list_of b) i j k = record { sorted = nothing_ascending; sorted_above = j; order = nothing_below b }
    by (list_of a) no_list i j k = absurd k
    by (list_of a) (list_of b) i j k = record { sorted = i; sorted_above = j; order = k }

-- the same kinds stay of both
stay_order
    : (kept : Kind → Bool) (s t : Shape) → ascending (stay kept s) ≡ true → ascending (stay kept t) ≡ true
    → Kinds (stay kept s) (stay kept t) → below s t ≡ true → below (stay kept s) (stay kept t) ≡ true
unfolding stay stay_element stay_record element_of record_of
stay_order kept (shape n b m t e r) (shape n' b' m' t' e' r') i j k h =
    below_intro _ _ i j k
    (element (kept Kind.list) (below_elements (shape n b m t e r) (shape n' b' m' t' e' r') h))
    (members (kept Kind.rec) (below_records (shape n b m t e r) (shape n' b' m' t' e' r') h))
  where
    element : (q : Bool) → Elements e e' → Elements (stay_element q e) (stay_element q e')
    element true g = g
    element false g = tt

    members : (q : Bool) → Records r r' → Records (stay_record q r) (stay_record q r')
    members true g = g
    members false g = tt

module _ (k : Test) {s t : Shape} (h : Under s t) where
  cut_kinds : Kinds (cut_to k s) (cut_to k t)
  cut_kinds j e =
      let (a, b) = and_two (has j s) (among j (test_kinds k)) (sym ((cuts k s).kinds j) ∙ e) in
      (cuts k t).kinds j ∙ and_intro (below_kinds s t h.order j a) b

  -- dec above is there where dec is there below, and so int stays above where it stays below
  taken_kinds : Kinds (taken_out k s) (taken_out k t)
  taken_kinds j e =
      let (a, b) = and_two (has j s) (not (among j (test_kinds k)) || int_stays (test_kinds k) s j) (sym ((takes k s).kinds j) ∙ e) in
      (takes k t).kinds j ∙ and_intro (below_kinds s t h.order j a) (stays (or_cases _ _ b))
    where
      stays
          : (not (among j (test_kinds k)) ≡ true) ⊎ (int_stays (test_kinds k) s j ≡ true)
          → not (among j (test_kinds k)) || int_stays (test_kinds k) t j ≡ true
      stays (inl x) = or_left _ x
      stays (inr x) =
          let (a, b, c) = and_three (among j (Kind.int ∷ [])) (has Kind.dec s) (not (among Kind.dec (test_kinds k))) x in
          or_right (not (among j (test_kinds k))) (and_intro (and_intro a (below_kinds s t h.order Kind.dec b)) c)

  -- "P's shape cut to K"
  pub under_cut : Under (cut_to k s) (cut_to k t)
  unfolding cut_to
  under_cut =
      let a = cut_ascending k s h.sorted in
      let b = cut_ascending k t h.sorted_above in
      record { sorted = a; sorted_above = b; order = stay_order _ s t a b cut_kinds h.order }

  -- "K's kinds taken out"
  pub under_taken : Under (taken_out k s) (taken_out k t)
  unfolding taken_out
  under_taken =
      let a = taken_ascending k s h.sorted in
      let b = taken_ascending k t h.sorted_above in
      record { sorted = a; sorted_above = b; order = stay_order _ s t a b taken_kinds h.order }
