-- Along a list of infer calls: the text reached is that of a shape which is the least above the start that admits every
-- accepted sample; and in any other order the same text is reached. Assumes nothing.
use Rattle.std.specs.Prelude.{ℕ, ◌≤◌, ◌≡◌, Bool, false, length}
use Rattle.std.proofs.Common.{le_trans, arith, sym, ◌∙◌}
use Rattle.std.proofs.Math.Path.{refl, ap, subst}
use Rattle.std.proofs.Math.Bool.{true}
use mathlib.Core.List.{List, [], ◌∷◌, map}
use Rattle.definitions.specs.declared.Limits.{Limits}
use Rattle.definitions.specs.Bytes.{Bytes}
use Rattle.definitions.specs.Outcome.{Outcome, ok, refused}
use Rattle.definitions.specs.Value.{Value}
use Rattle.definitions.specs.Shape.{Shape, ascending, forms, levels, nothing}
use Rattle.definitions.specs.Order.{below}
use Rattle.definitions.specs.Join.{join, shape_of}
use Rattle.definitions.specs.Admits.{admits}
use Rattle.definitions.specs.ShapeText.{read_shape, write_shape}
use Rattle.definitions.specs.Evaluate.{evaluate}
use Rattle.definitions.specs.Operations.{Source}
use Rattle.laws.specs.LimitRanges.{bounds_of}
use Rattle.laws.specs.Distinct.{distinct}
use Rattle.laws.specs.Good.{GoodShape}
use Rattle.laws.specs.OrderLaws.{below_refl, below_trans, below_antisym}
use Rattle.laws.specs.JoinLaws.{nothing_ascending, join_ascending, join_upper_left, join_upper_right, join_least, shape_of_ascending}
use Rattle.laws.proofs.AdmitsLaws.{admits_mono, shape_of_admits, admits_below}
use Rattle.laws.specs.SizeLaws.{forms_mono, levels_mono, write_mono}
use Rattle.laws.proofs.RoundLaws.{shape_reads_back, nothing_good, join_good}
use Rattle.laws.specs.Judging.{shape_over, shape_fits, fits_shape}
use Rattle.laws.specs.Chain.{Each, each_none, each_one, Reordered, Call, start, takes, left_by}
use Rattle.laws.specs.Chain.{reached, accepted, Reads, LongEnough, ProperSource, InRange}
use Rattle.laws.proofs.ChainLists.{each_first, each_rest, each_reordered, each_ordered_back, each_map}
use Rattle.laws.proofs.ChainSteps.{Accepted, accepted_left, refused_left, taken_accepted}

-- two readings of one text are the same
pub ok_same : {A : Type 0} {o : Outcome ℕ A} {a b : A} → o ≡ ok a → o ≡ ok b → a ≡ b
ok_same {A} {o} {a} {b} p q = ap (from a) (sym p ∙ q)
  where
    from : A → Outcome ℕ A → A
    from d (ok x) = x
    from d (refused n k) = d

-- t is the text of s, a well_formed shape within the limits, which are in range
pub record Stands (l : Limits) (t : Bytes) (s : Shape) : Type 0 where
  pub range : InRange l
  pub text : t ≡ write_shape s
  pub sorted : ascending s ≡ true
  pub good : GoodShape s
  pub fits : shape_over l s ≡ false

pub stands_reads : {l : Limits} {t : Bytes} {s : Shape} → Stands l t s → read_shape l t ≡ ok s
stands_reads {l} {t} {s} h =
    let f = shape_fits l s h.fits in
    ap (λ (x : Bytes). read_shape l x) h.text ∙ shape_reads_back l s h.good h.sorted f.0 f.1

pub stands_short : {l : Limits} {t : Bytes} {s : Shape} → Stands l t s → length t ≤ l.bytes
stands_short {l} {t} {s} h = subst (λ (x : Bytes). length x ≤ l.bytes) (sym h.text) (shape_fits l s h.fits).2

start_text : start ≡ write_shape nothing
unfolding evaluate start
start_text = refl

nothing_small : (forms nothing ≡ 1) × (levels nothing ≡ 1) × (length (write_shape nothing) ≡ 8)
unfolding evaluate
nothing_small = (refl, refl, refl)

-- the start is the text of nothing
pub stands_start : (l : Limits) → InRange l → Stands l start nothing
stands_start l r =
    record {
      range = r;
      text = start_text;
      sorted = nothing_ascending;
      good = nothing_good;
      fits =
          let (f, d, b) = nothing_small in
          let v : 16 ≤ l.values = (bounds_of r).values.0 in
          let n : 4 ≤ l.nesting = (bounds_of r).nesting.0 in
          let k : 1024 ≤ l.bytes = (bounds_of r).bytes.0 in
          fits_shape l nothing (omega (arith, f)) (omega (arith, d)) (omega (arith, b));
    }

module _ (source : Source) (proper : ProperSource source) (published : List ℕ) (l : Limits) where
  -- ---- what a list of calls reaches

  accepted_taken
      : (c : Call) (cs : List Call) (t : Bytes) → takes source published l c t ≡ true
      → accepted source published l (c ∷ cs) t ≡ c.sample ∷ accepted source published l cs (left_by source published l c t)
  unfolding accepted
  accepted_taken c cs t e = rw (e, accepted)

  accepted_refused
      : (c : Call) (cs : List Call) (t : Bytes) → takes source published l c t ≡ false
      → accepted source published l (c ∷ cs) t ≡ accepted source published l cs (left_by source published l c t)
  unfolding accepted
  accepted_refused c cs t e = rw (e, accepted)

  -- the value of a sample, with what a source sees to
  distinct_of : {d : Bytes} {v : Value} → Reads source l d v → distinct v ≡ true
  distinct_of {d} {v} r = proper.names_once l d v r.value

  -- the shape of a sample lies below each shape that admits it
  sample_below : {d : Bytes} {v : Value} (u : Shape) → ascending u ≡ true → Reads source l d v → admits u v ≡ true → below (shape_of v) u ≡ true
  sample_below {d} {v} u a r h = admits_below u v (distinct_of r) a h

  below_sample : {d : Bytes} {v : Value} (u : Shape) → ascending u ≡ true → Reads source l d v → below (shape_of v) u ≡ true → admits u v ≡ true
  below_sample {d} {v} u a r h = admits_mono (shape_of v) u v (shape_of_ascending v) a h (shape_of_admits v (distinct_of r))

  abbrev AdmittedBy : Shape → Bytes → Type 0
  AdmittedBy s d = (v : Value) × Reads source l d v × (admits s v ≡ true)

  abbrev MustAdmit : Shape → Bytes → Type 0
  MustAdmit u d = (v : Value) → Reads source l d v → admits u v ≡ true

  -- a document means one value
  must_admit : (u : Shape) (d : Bytes) → AdmittedBy u d → MustAdmit u d
  must_admit u d (v, r, h) w q = subst (λ (x : Value). admits u x ≡ true) (ok_same r.value q.value) h

  -- what a list of calls from the text of s reaches
  pub record Reaches (calls : List Call) (t : Bytes) (s : Shape) : Type 0 where
    pub shape : Shape
    pub stands : Stands l (reached source published l calls t) shape
    pub above : below s shape ≡ true
    pub admits_each : Each (AdmittedBy shape) (accepted source published l calls t)
    pub least
        : (u : Shape) → ascending u ≡ true → below s u ≡ true → Each (MustAdmit u) (accepted source published l calls t)
        → below shape u ≡ true

  join_Stands
      : {c : Call} {t : Bytes} {s : Shape} {v : Value} → Stands l t s → Accepted source published l c t s v
      → Stands l (left_by source published l c t) (join s (shape_of v))
  join_Stands {c} {t} {s} {v} h a =
      record {
        range = h.range;
        text = (accepted_left source published l c t s v a).1;
        sorted = join_ascending s (shape_of v) h.sorted (shape_of_ascending v);
        good = join_good s (shape_of v) h.good (proper.names_in_utf8 l c.sample v a.reads_sample.value);
        fits = a.fits;
      }

  -- an accepted call, then the rest
  reaches_taken
      : (c : Call) (cs : List Call) (t : Bytes) (s : Shape) (v : Value) → Stands l t s → Accepted source published l c t s v
      → Reaches cs (left_by source published l c t) (join s (shape_of v)) → Reaches (c ∷ cs) t s
  unfolding reached
  reaches_taken c cs t s v h a k =
      let j : ascending (join s (shape_of v)) ≡ true = join_ascending s (shape_of v) h.sorted (shape_of_ascending v) in
      let e = accepted_taken c cs t (accepted_left source published l c t s v a).0 in
      record {
        shape = k.shape;
        stands = k.stands;
        above =
            below_trans s (join s (shape_of v)) k.shape h.sorted j k.stands.sorted
            (join_upper_left s (shape_of v) h.sorted (shape_of_ascending v)) k.above;
        admits_each =
            subst (Each (AdmittedBy k.shape)) (sym e)
            (each_one (
              v,
              a.reads_sample,
              below_sample k.shape k.stands.sorted a.reads_sample
                  (below_trans (shape_of v) (join s (shape_of v)) k.shape (shape_of_ascending v) j k.stands.sorted
                  (join_upper_right s (shape_of v) h.sorted (shape_of_ascending v)) k.above),
            )
            k.admits_each);
        least =
            λ u b q w.
            let w' : Each (MustAdmit u) (c.sample ∷ accepted source published l cs (left_by source published l c t)) =
            subst (Each (MustAdmit u)) e w in
            k.least u b
            (join_least s (shape_of v) u h.sorted (shape_of_ascending v) b q
            (sample_below u b a.reads_sample (each_first w' v a.reads_sample)))
            (each_rest w');
      }

  reaches_refused
      : (c : Call) (cs : List Call) (t : Bytes) (s : Shape) → takes source published l c t ≡ false
      → Reaches cs (left_by source published l c t) s → Reaches (c ∷ cs) t s
  unfolding reached
  reaches_refused c cs t s e k =
      record {
        shape = k.shape;
        stands = k.stands;
        above = k.above;
        admits_each = subst (Each (AdmittedBy k.shape)) (sym (accepted_refused c cs t e)) k.admits_each;
        least = λ u b q w. k.least u b q (subst (Each (MustAdmit u)) (accepted_refused c cs t e) w);
      }

  reaches_none : (t : Bytes) (s : Shape) → Stands l t s → Reaches [] t s
  unfolding reached accepted
  reaches_none t s h =
      record
      { shape = s; stands = h; above = below_refl s h.sorted; admits_each = each_none; least = λ u b q w. q }

  -- the shape that the call read is the one whose text it was handed
  same_shape
      : {c : Call} {t : Bytes} {s z : Shape} {v : Value} → Stands l t s → Accepted source published l c t z v
      → Accepted source published l c t s v
  same_shape {c} {t} {s} {z} {v} h a =
      subst (λ (x : Shape). Accepted source published l c t x v) (ok_same a.reads_shape (stands_reads h)) a

  -- the first call, given what the rest reaches from any text
  reaches_first
      : (c : Call) (cs : List Call) (t : Bytes) (s : Shape) → Stands l t s
      → ((t' : Bytes) (s' : Shape) → Stands l t' s' → Reaches cs t' s') → Reaches (c ∷ cs) t s
  reaches_first c cs t s h rest = go (takes source published l c t) refl
    where
      go : (b : Bool) → takes source published l c t ≡ b → Reaches (c ∷ cs) t s
      go true e =
          let a = taken_accepted source published l proper c t e in
          let a' = same_shape h a.2 in
          reaches_taken c cs t s a.1 h a' (rest (left_by source published l c t) (join s (shape_of a.1)) (join_Stands h a'))
      go false e =
          reaches_refused c cs t s e
          (rest (left_by source published l c t) s
          (subst (λ (x : Bytes). Stands l x s) (sym (refused_left source published l c t e)) h))

  pub reaches : (calls : List Call) (t : Bytes) (s : Shape) → Stands l t s → Reaches calls t s
  reaches [] t s h = reaches_none t s h
  reaches (c ∷ cs) t s h = reaches_first c cs t s h (λ t' s' h'. reaches cs t' s' h')

  -- ---- another order

  -- a call below a shape that fits, with long enough buffers, is accepted
  fits_below
      : (top : Shape) (text : Bytes) → Stands l text top → (c : Call) (t : Bytes) (s : Shape) (v : Value) → Stands l t s
      → Reads source l c.sample v → below s top ≡ true → below (shape_of v) top ≡ true → LongEnough published text c
      → Accepted source published l c t s v
  fits_below top text k c t s v h r p q long =
      let sv : ascending (shape_of v) ≡ true = shape_of_ascending v in
      let j : ascending (join s (shape_of v)) ≡ true = join_ascending s (shape_of v) h.sorted sv in
      let m : below (join s (shape_of v)) top ≡ true = join_least s (shape_of v) top h.sorted sv k.sorted p q in
      let f = shape_fits l top k.fits in
      let w : length (write_shape (join s (shape_of v))) ≤ length (write_shape top) = write_mono _ top j k.sorted m in
      record {
        range = h.range;
        work = long.work;
        short_text = stands_short h;
        reads_shape = stands_reads h;
        reads_sample = r;
        fits =
            fits_shape l (join s (shape_of v)) (le_trans (forms_mono _ top j k.sorted m) f.0)
            (le_trans (levels_mono _ top j k.sorted m) f.1) (le_trans w f.2);
        room = le_trans w (subst (λ (x : Bytes). length x ≤ length c.output) k.text long.room);
      }

  -- every call of another order is accepted
  all_accepted
      : (top : Shape) (text : Bytes) → Stands l text top → (others : List Call) (t : Bytes) (s : Shape) → Stands l t s → below s top ≡ true
      → Each (AdmittedBy top) (map (λ c. c.sample) others) → Each (LongEnough published text) others
      → accepted source published l others t ≡ map (λ c. c.sample) others
  unfolding accepted
  all_accepted top text k [] t s h p each long = refl
  all_accepted top text k (c ∷ cs) t s h p each long =
      let (v, r, m) = each_first each in
      let q : below (shape_of v) top ≡ true = sample_below top k.sorted r m in
      let a = fits_below top text k c t s v h r p q (each_first long) in
      accepted_taken c cs t (accepted_left source published l c t s v a).0
      ∙ ap (λ (xs : List Bytes). c.sample ∷ xs)
      (all_accepted top text k cs (left_by source published l c t) (join s (shape_of v)) (join_Stands h a)
      (join_least s (shape_of v) top h.sorted (shape_of_ascending v) k.sorted p q) (each_rest each) (each_rest long))

  -- "In any other order, given long enough buffers, these samples are all accepted too and reach the same bytes."
  pub another_order
      : (calls others : List Call) (t : Bytes) (s : Shape) (h : Stands l t s)
      → Reordered (accepted source published l calls t) (map (λ c. c.sample) others)
      → Each (LongEnough published (reached source published l calls t)) others
      → (accepted source published l others t ≡ map (λ c. c.sample) others)
      × (reached source published l others t ≡ reached source published l calls t)
  another_order calls others t s h o long = (all, texts)
    where
      here : Reaches calls t s
      here = reaches calls t s h

      there : Reaches others t s
      there = reaches others t s h

      all : accepted source published l others t ≡ map (λ c. c.sample) others
      all =
          all_accepted here.shape (reached source published l calls t) here.stands others t s h here.above
          (each_reordered o here.admits_each) long

      there_admits : Each (AdmittedBy there.shape) (map (λ c. c.sample) others)
      there_admits = subst (Each (AdmittedBy there.shape)) all there.admits_each

      up : below here.shape there.shape ≡ true
      up =
          here.least there.shape there.stands.sorted there.above
          (each_map (must_admit there.shape) (each_ordered_back o there_admits))

      down : below there.shape here.shape ≡ true
      down =
          there.least here.shape here.stands.sorted here.above
          (subst (Each (MustAdmit here.shape)) (sym all) (each_map (must_admit here.shape) (each_reordered o here.admits_each)))

      same : there.shape ≡ here.shape
      same = below_antisym there.shape here.shape there.stands.sorted here.stands.sorted down up

      texts : reached source published l others t ≡ reached source published l calls t
      texts = there.stands.text ∙ ap write_shape same ∙ sym here.stands.text
