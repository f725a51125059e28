-- The names of a shape that was read are UTF-8. Assumes nothing.
use Rattle.std.specs.Prelude.{◌≡◌, refl, Bool, true, false, length}
use Rattle.std.proofs.Common.{subst}
use Rattle.std.proofs.Math.Option.{Option, none, some, some-injective, none-ne-some}
use Rattle.definitions.specs.declared.Limits.{Limits}
use Rattle.definitions.specs.Bytes.{Bytes}
use Rattle.definitions.specs.Outcome.{ok}
use Rattle.definitions.specs.Tokens.{Token, Placed, Step, want_open, want_close, want_text, want_word, want_named, where_true, where_some, look_word}
use Rattle.definitions.specs.Shape.{Kind, among, Shape, Record, no_rec, rec_of, Fields, no_fields}
use Rattle.definitions.specs.ShapeText.{Parts, no_parts, with_kind, with_element, with_member, Around, text_end, as_element, as_member, Want}
use Rattle.definitions.specs.ShapeText.{shape_open, shape_word, kind_word, member_open, member_word, member_name, member_close, State, want}
use Rattle.definitions.specs.ShapeText.{whole, put, fields_onto, record_from, build, kind_words, shape_words, member_words, may_follow}
use Rattle.definitions.specs.ShapeText.{name_fits, member_step, element_step, bracket_step, kind_step, want_step, step, finished, read_shape}
use Rattle.laws.specs.Rfc3629.{UTF8Octets}
use Rattle.laws.specs.Good.{GoodShape, good_shape, GoodElement, good_no_list, good_list_of, GoodRecord}
use Rattle.laws.specs.Good.{good_no_rec, good_rec_of, GoodFields, good_no_fields, good_field}
use Rattle.laws.proofs.LexGood.{GoodToken, good_opening, good_closing, good_quoted, good_word, good_broken, tokens_good}
use Rattle.laws.proofs.RoundOutcome.{gives_holds, Leads, leads_nowhere, leads_on, leads_in, tokens_give}

-- ---- what a token leads to

pub want_open_leads : {Q : Type 0} {K : Q → Type 0} {s : Step Q} {t : Token} → GoodToken t → Leads K s → Leads K (want_open t s)
unfolding want_open
want_open_leads good_opening h = h
want_open_leads good_closing h = leads_nowhere
want_open_leads (good_quoted u) h = leads_nowhere
want_open_leads good_word h = leads_nowhere
want_open_leads good_broken h = leads_nowhere

pub want_close_leads : {Q : Type 0} {K : Q → Type 0} {s : Step Q} {t : Token} → GoodToken t → Leads K s → Leads K (want_close t s)
unfolding want_close
want_close_leads good_opening h = leads_nowhere
want_close_leads good_closing h = h
want_close_leads (good_quoted u) h = leads_nowhere
want_close_leads good_word h = leads_nowhere
want_close_leads good_broken h = leads_nowhere

pub want_text_leads
    : {Q : Type 0} {K : Q → Type 0} {t : Token} (f : Bytes → Step Q) → GoodToken t
    → ((n : Bytes) → UTF8Octets n → Leads K (f n)) → Leads K (want_text t f)
unfolding want_text
want_text_leads f good_opening h = leads_nowhere
want_text_leads f good_closing h = leads_nowhere
want_text_leads f (good_quoted {t} u) h = h t u
want_text_leads f good_word h = leads_nowhere
want_text_leads f good_broken h = leads_nowhere

pub want_word_leads
    : {Q : Type 0} {K : Q → Type 0} {t : Token} (f : Bytes → Step Q) → GoodToken t → ((w : Bytes) → Leads K (f w))
    → Leads K (want_word t f)
unfolding want_word
want_word_leads f good_opening h = leads_nowhere
want_word_leads f good_closing h = leads_nowhere
want_word_leads f (good_quoted u) h = leads_nowhere
want_word_leads f (good_word {w}) h = h w
want_word_leads f good_broken h = leads_nowhere

pub where_true_leads : {Q : Type 0} {K : Q → Type 0} (b : Bool) {s : Step Q} → Leads K s → Leads K (where_true b s)
unfolding where_true
where_true_leads true h = h
where_true_leads false h = leads_nowhere

pub where_some_leads
    : {A Q : Type 0} {K : Q → Type 0} (o : Option A) (f : A → Step Q) → ((a : A) → o ≡ some a → Leads K (f a))
    → Leads K (where_some o f)
unfolding where_some
where_some_leads none f h = leads_nowhere
where_some_leads (some a) f h = h a refl

-- ---- good states

data GoodParts (p : Parts) : Type 0 where
  good_parts : GoodElement p.element → GoodFields p.fields → GoodParts p

data GoodAround : Around → Type 0 where
  good_end : GoodAround text_end
  good_as_element : {p : Parts} {o : Around} → GoodParts p → GoodAround o → GoodAround (as_element p o)
  good_as_member : {p : Parts} {n : Bytes} {o : Around} → GoodParts p → UTF8Octets n → GoodAround o → GoodAround (as_member p n o)

data GoodWant : Want → Type 0 where
  good_shape_open : {o : Around} → GoodAround o → GoodWant (shape_open o)
  good_shape_word : {o : Around} → GoodAround o → GoodWant (shape_word o)
  good_kind_word : {p : Parts} {o : Around} → GoodParts p → GoodAround o → GoodWant (kind_word p o)
  good_member_open : {p : Parts} {o : Around} → GoodParts p → GoodAround o → GoodWant (member_open p o)
  good_member_word : {p : Parts} {o : Around} → GoodParts p → GoodAround o → GoodWant (member_word p o)
  good_member_name : {p : Parts} {o : Around} → GoodParts p → GoodAround o → GoodWant (member_name p o)
  good_member_close : {p : Parts} {o : Around} → GoodParts p → GoodAround o → GoodWant (member_close p o)

data GoodState : State → Type 0 where
  good_want : {w : Want} → GoodWant w → GoodState (want w)
  good_whole : {s : Shape} → GoodShape s → GoodState (whole s)

-- ---- the steps keep states good

fields_onto_good : {fs : Fields} → GoodFields fs → {gs : Fields} → GoodFields gs → GoodFields (fields_onto fs gs)
unfolding fields_onto
fields_onto_good good_no_fields g = g
fields_onto_good (good_field u s fs) g = fields_onto_good fs (good_field u s g)

build_good : {p : Parts} → GoodParts p → GoodShape (build p)
unfolding build record_from
build_good {p} (good_parts e fs) = good_shape e (told (among Kind.rec p.kinds))
  where
    told : (b : Bool) → GoodRecord (elim b as (λ x. Record) [ true ↦ rec_of (fields_onto p.fields no_fields) | false ↦ no_rec ])
    told true = good_rec_of (fields_onto_good fs good_no_fields)
    told false = good_no_rec

put_good : {s : Shape} {o : Around} → GoodShape s → GoodAround o → GoodState (put s o)
unfolding put with_element with_member
put_good s good_end = good_whole s
put_good s (good_as_element (good_parts e fs) o) = good_want (good_member_open (good_parts (good_list_of s) fs) o)
put_good s (good_as_member (good_parts e fs) u o) = good_want (good_member_close (good_parts e (good_field u s fs)) o)

member_step_good : {p : Parts} {o : Around} {t : Token} → GoodParts p → GoodAround o → GoodToken t → Leads GoodState (member_step p o t)
unfolding member_step
member_step_good {p} g h good_opening = where_true_leads (among Kind.rec p.kinds) (leads_on (good_want (good_member_word g h)))
member_step_good g h good_closing = leads_on (put_good (build_good g) h)
member_step_good g h (good_quoted u) = leads_nowhere
member_step_good g h good_word = leads_nowhere
member_step_good g h good_broken = leads_nowhere

bracket_step_good
    : {p : Parts} {o : Around} {t : Token} → GoodParts p → GoodAround o → GoodToken t → Leads GoodState (bracket_step p o t)
unfolding bracket_step element_step
bracket_step_good {p} {o} {t} g h k = told (among Kind.list p.kinds)
  where
    told
        : (b : Bool)
        → Leads GoodState (elim b as (λ x. Step State) [ true ↦ element_step p o t | false ↦ member_step p o t ])
    told true = want_open_leads k (leads_in (good_want (good_shape_word (good_as_element g h))))
    told false = member_step_good g h k

kind_step_good : {p : Parts} {o : Around} {t : Token} → GoodParts p → GoodAround o → GoodToken t → Leads GoodState (kind_step p o t)
unfolding kind_step with_kind
kind_step_good g h good_opening = bracket_step_good g h good_opening
kind_step_good g h good_closing = bracket_step_good g h good_closing
kind_step_good g h (good_quoted u) = leads_nowhere
kind_step_good {p} {o} (good_parts e fs) h (good_word {w}) =
    where_some_leads (look_word kind_words w) _
    (λ k i. where_true_leads (may_follow p.kinds k) (leads_on (good_want (good_kind_word (good_parts e fs) h))))
kind_step_good g h good_broken = leads_nowhere

want_step_good : {w : Want} {t : Token} → GoodWant w → GoodToken t → Leads GoodState (want_step w t)
unfolding want_step want_named no_parts
want_step_good (good_shape_open o) k = want_open_leads k (leads_in (good_want (good_shape_word o)))
want_step_good (good_shape_word o) k =
    want_word_leads _ k
    (λ w. where_some_leads (look_word shape_words w) _
    (λ u e. leads_on (good_want (good_kind_word (good_parts good_no_list good_no_fields) o))))
want_step_good (good_kind_word p o) k = kind_step_good p o k
want_step_good (good_member_open p o) k = member_step_good p o k
want_step_good (good_member_word p o) k =
    want_word_leads _ k (λ w. where_some_leads (look_word member_words w) _ (λ u e. leads_on (good_want (good_member_name p o))))
want_step_good (good_member_name {p} g o) k =
    want_text_leads _ k
    (λ n u. where_true_leads (name_fits p.fields n) (leads_on (good_want (good_shape_open (good_as_member g u o)))))
want_step_good (good_member_close p o) k = want_close_leads k (leads_on (good_want (good_member_open p o)))

step_good : (q : State) → GoodState q → (t : Placed) → GoodToken t.token → Leads GoodState (step q t)
unfolding step
step_good (want w) (good_want g) t k = want_step_good g k
step_good (whole s) (good_whole g) t k = leads_nowhere

finished_good : (q : State) → GoodState q → (s : Shape) → finished q ≡ some s → GoodShape s
unfolding finished
finished_good (want w) (good_want g) s e = absurd (none-ne-some s e)
finished_good (whole t) (good_whole g) s e = subst GoodShape (some-injective t s e) g

-- the names of a shape that was read are UTF-8
pub shape_read_good : (l : Limits) (s : Bytes) (sh : Shape) → read_shape l s ≡ ok sh → GoodShape sh
unfolding read_shape
shape_read_good l s sh e =
    gives_holds e
    (tokens_give GoodState GoodShape step finished step_good finished_good l 0 (length s) (want (shape_open text_end))
    (good_want (good_shape_open good_end)) (tokens_good s))
