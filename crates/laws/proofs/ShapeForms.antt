-- Reading shape texts accepts exactly the right ones within the limits. Assumes nothing.
use Rattle.std.specs.Prelude.{ℕ, ◌≤◌, ◌≡◌, refl, true, List, [], length}
use Rattle.std.proofs.Common.{ap, subst, arith}
use Rattle.std.proofs.Math.Option.{some, none-ne-some, some-injective}
use Rattle.definitions.specs.declared.Limits.{Limits}
use Rattle.definitions.specs.Bytes.{Bytes}
use Rattle.definitions.specs.Outcome.{ok}
use Rattle.definitions.specs.Shape.{Shape, Element, Record, Fields, ascending, ascending_element, ascending_record, ascending_fields, forms, levels}
use Rattle.definitions.specs.ShapeText.{text_end, shape_open, State, want, whole, put, depth, step, finished, read_shape}
use Rattle.definitions.specs.Tokens.{Placed, tokens, or_end, read_tokens}
use Rattle.laws.specs.Bools.{and_intro}
use Rattle.laws.specs.FormGrammar.{ShapeForm, shape_form, ElementForm, no_element, element}
use Rattle.laws.specs.FormGrammar.{RecordForm, no_members, members, MembersForm, no_member, member}
use Rattle.laws.specs.FormRuns.{Walk, Fits, Accepted, read_accepted, read_along, walk_unique}
use Rattle.laws.proofs.ShapeBacks.{walk_right}
use Rattle.laws.proofs.ShapeWalks.{shape_depths, depths_forms, depths_levels, shape_opens, shape_walk}

-- ---- what is accepted is right

-- the walk to a whole shape
pub whole_walk
    : {s : Shape} {ts : List Placed} {ds : List ℕ} {q : State} → Walk step (want (shape_open text_end)) ts ds q [] → finished q ≡ some s
    → Walk step (want (shape_open text_end)) ts ds (whole s) []
unfolding finished
whole_walk {s} {ts} {ds} {q} w e = subst (λ q. Walk step (want (shape_open text_end)) ts ds q []) (is_whole q e) w
  where
    is_whole : (q : State) → finished q ≡ some s → q ≡ whole s
    is_whole (want w) e = absurd (none-ne-some s e)
    is_whole (whole a) e = ap whole (some-injective a s e)

accepted
    : (l : Limits) (s : Bytes) (sh : Shape) → read_shape l s ≡ ok sh
    → Accepted step finished l 0 (want (shape_open text_end)) (tokens s) sh
unfolding read_shape
accepted l s sh e = read_accepted step finished l (length s) (tokens s) sh 0 (want (shape_open text_end)) (omega arith) e

-- the walk over a right text
pub right_walk
    : {s : Shape} {ts : List Placed} → ShapeForm ts s []
    → Walk step (want (shape_open text_end)) ts (shape_depths s 0) (whole s) []
unfolding put depth
right_walk f = shape_walk f text_end (want (shape_open text_end)) (shape_opens text_end)

-- its nestings fit where its forms and nesting do
fits_to : {l : Limits} (s : Shape) → Fits l 0 (shape_depths s 0) → (forms s ≤ l.values) × (levels s ≤ l.nesting)
fits_to s f =
    let a = f.count_fits in
    let b = f.depth_fits in
    let c = depths_forms s 0 in
    let d = depths_levels s 0 in
    (omega arith, omega arith)

fits_from : {l : Limits} (s : Shape) → forms s ≤ l.values → levels s ≤ l.nesting → Fits l 0 (shape_depths s 0)
fits_from s a b =
    let c = depths_forms s 0 in
    let d = depths_levels s 0 in
    record { count_fits = omega arith; depth_fits = omega arith }

-- what is accepted is a right text within the limits
pub shape_accepted_to
    : (l : Limits) (s : Bytes) (sh : Shape) → read_shape l s ≡ ok sh
    → ShapeForm (tokens s) sh [] × (forms sh ≤ l.values) × (levels sh ≤ l.nesting)
shape_accepted_to l s sh e =
    let a = accepted l s sh e in
    let w = whole_walk a.walk a.is_whole in
    let f = walk_right w in
    let g = fits_to sh (subst (Fits l 0) (walk_unique {w = whole sh} w (right_walk f)).0 a.fits) in
    (f, g.0, g.1)

-- a right text within the limits is accepted, with what it means
pub shape_accepted_from
    : (l : Limits) (s : Bytes) (sh : Shape) → ShapeForm (tokens s) sh [] → forms sh ≤ l.values → levels sh ≤ l.nesting
    → read_shape l s ≡ ok sh
unfolding read_shape read_tokens finished or_end
shape_accepted_from l s sh f a b = read_along step finished l (length s) (right_walk f) 0 (fits_from sh a b)

-- ---- names ascend

mutual
  unfolding ascending

  pub form_ascending : {ts us : List Placed} {s : Shape} → ShapeForm ts s us → ascending s ≡ true
  form_ascending (shape_form h k e r) = and_intro (element_ascending e) (record_ascending r)

  element_ascending : {ts us : List Placed} {e : Element} → ElementForm ts e us → ascending_element e ≡ true
  element_ascending no_element = refl
  element_ascending (element f) = form_ascending f

  record_ascending : {ts us : List Placed} {r : Record} → RecordForm ts r us → ascending_record r ≡ true
  record_ascending no_members = refl
  record_ascending (members m) = members_ascending m

  members_ascending : {ts us : List Placed} {fs : Fields} → MembersForm ts fs us → ascending_fields fs ≡ true
  members_ascending no_member = refl
  members_ascending (member h f b m) = and_intro (and_intro (form_ascending f) b) (members_ascending m)

pub shape_ascending : (l : Limits) (s : Bytes) (sh : Shape) → read_shape l s ≡ ok sh → ascending sh ≡ true
shape_ascending l s sh e = form_ascending (shape_accepted_to l s sh e).0
