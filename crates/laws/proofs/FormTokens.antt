-- Whether a text of forms is right depends on its tokens alone, not on their places. Assumes nothing.
use Rattle.std.specs.Prelude.{ℕ, ◌≡◌, refl, true, false, ◌||◌, List, [], ◌∷◌}
use Rattle.std.proofs.Common.{sym, ◌∙◌, ap, subst, inl, inr}
use Rattle.definitions.specs.Bytes.{Bytes, same}
use Rattle.definitions.specs.Value.{Value}
use Rattle.definitions.specs.Shape.{Kind, Shape, Element, Record, Fields}
use Rattle.definitions.specs.Reader.{Place, Result, Pairs, no_pairs, pair, among_pairs}
use Rattle.definitions.specs.Tokens.{Token, opening, quoted, word, Placed}
use Rattle.laws.specs.FormGrammar.{at, Head, head, Name, name, KindWords, no_kinds, has_kind, lacks_kind, ShapeForm, shape_form, ElementForm}
use Rattle.laws.specs.FormGrammar.{no_element, element, RecordForm, no_members, members, MembersForm, no_member, member, PlaceForm, it_form}
use Rattle.laws.specs.FormGrammar.{field_form, ResultForm, convert_form, keep_form, count_form, each_form, when_form, if_form, num_form}
use Rattle.laws.specs.FormGrammar.{str_form, yes_form, no_form, none_form, pack_form, PairsForm, no_pair, next_pair, ReaderText, PlaceText}

-- ---- the same tokens

-- the same tokens, at any places
pub data Same : List Placed → List Placed → Type 0 where
  same_none : Same [] []
  same_more : {t u : Placed} {ts us : List Placed} → t.token ≡ u.token → Same ts us → Same (t ∷ ts) (u ∷ us)

-- a list that has the token k first, and what is left
record Takes (k : Token) (vs us : List Placed) : Type 0 where
  place : ℕ
  left : List Placed
  split : us ≡ at place k ∷ left
  same_left : Same vs left

take_token : {x : ℕ} {k : Token} {vs us : List Placed} → Same (at x k ∷ vs) us → Takes k vs us
take_token (same_more {u = u} {us = us} e s) =
    record { place = u.at; left = us; split = λ i. at u.at (sym e i) ∷ us; same_left = s }

-- a form of one list is a form of the other
record Moved (X : List Placed → List Placed → Type 0) (ts us : List Placed) : Type 0 where
  left : List Placed
  form : X ts left
  same_left : Same us left

-- where a token must come next
closed
    : {X : List Placed → List Placed → Type 0} {x : ℕ} {k : Token} {ts vs : List Placed} → Moved X ts (at x k ∷ vs)
    → (y : ℕ) × (ws : List Placed) × X ts (at y k ∷ ws) × Same vs ws
closed {X} {ts = ts} m =
    let t = take_token m.same_left in
    (t.place, t.left, subst (X ts) t.split m.form, t.same_left)

closed_two
    : {X : List Placed → List Placed → Type 0} {x y : ℕ} {k j : Token} {ts vs : List Placed} → Moved X ts (at x k ∷ at y j ∷ vs)
    → (a : ℕ) × (b : ℕ) × (ws : List Placed) × X ts (at a k ∷ at b j ∷ ws) × Same vs ws
closed_two {X} {k = k} {ts = ts} m =
    let (a, us, f, e) = closed m in
    let t = take_token e in
    (a, t.place, t.left, subst (λ us. X ts (at a k ∷ us)) t.split f, t.same_left)

head_same : {w : Bytes} {p : ℕ} {ts us vs : List Placed} → Head w p ts us → Same ts vs → (q : ℕ) × Moved (Head w q) vs us
head_same {w} head s = first (take_token s)
  where
    second : {q : ℕ} {us ws : List Placed} → Takes (word w) us ws → Moved (Head w q) (at q opening ∷ ws) us
    second {q = q} t =
        record {
          left = t.left;
          form = subst (λ ws. Head w q (at q opening ∷ ws) t.left) (sym t.split) head;
          same_left = t.same_left;
        }

    first : {x : ℕ} {us vs : List Placed} → Takes opening (at x (word w) ∷ us) vs → (q : ℕ) × Moved (Head w q) vs us
    first {us = us} t = (t.place, subst (λ vs. Moved (Head w t.place) vs us) (sym t.split) (second (take_token t.same_left)))

name_same : {n : Bytes} {ts us vs : List Placed} → Name n ts us → Same ts vs → Moved (Name n) vs us
name_same {n} name s = first (take_token s)
  where
    first : {us vs : List Placed} → Takes (quoted n) us vs → Moved (Name n) vs us
    first t =
        record { left = t.left; form = subst (λ vs. Name n vs t.left) (sym t.split) name; same_left = t.same_left }

-- ---- shape texts

kinds_same
    : {s : Shape} {ks : List Kind} {ts us vs : List Placed} → KindWords s ks ts us → Same ts vs → Moved (KindWords s ks) vs us
kinds_same no_kinds e = record { left = _; form = no_kinds; same_left = e }
kinds_same {s} {us = us} (has_kind {k = k} {ks = ks} h g) e =
    let t = take_token e in
    let m = kinds_same g t.same_left in
    subst
    (λ vs. Moved (KindWords s (k ∷ ks)) vs us)
    (sym t.split)
    (record { left = m.left; form = has_kind h m.form; same_left = m.same_left })
kinds_same (lacks_kind h g) e =
    let m = kinds_same g e in
    record { left = m.left; form = lacks_kind h m.form; same_left = m.same_left }

mutual
  shape_same : {s : Shape} {ts us vs : List Placed} → ShapeForm ts s us → Same ts vs → Moved (λ vs us. ShapeForm vs s us) vs us
  shape_same (shape_form h k f g) e =
      let (q, a) = head_same h e in
      let b = kinds_same k a.same_left in
      let c = element_same f b.same_left in
      let (y, ws, d, i) = closed (record_same g c.same_left) in
      record { left = ws; form = shape_form a.form b.form c.form d; same_left = i }

  element_same
      : {x : Element} {ts us vs : List Placed} → ElementForm ts x us → Same ts vs → Moved (λ vs us. ElementForm vs x us) vs us
  element_same no_element e = record { left = _; form = no_element; same_left = e }
  element_same (element f) e =
      let m = shape_same f e in
      record { left = m.left; form = element m.form; same_left = m.same_left }

  record_same
      : {r : Record} {ts us vs : List Placed} → RecordForm ts r us → Same ts vs → Moved (λ vs us. RecordForm vs r us) vs us
  record_same no_members e = record { left = _; form = no_members; same_left = e }
  record_same (members f) e =
      let m = members_same f e in
      record { left = m.left; form = members m.form; same_left = m.same_left }

  members_same
      : {fs : Fields} {ts us vs : List Placed} → MembersForm ts fs us → Same ts vs → Moved (λ vs us. MembersForm vs fs us) vs us
  members_same no_member e = record { left = _; form = no_member; same_left = e }
  members_same (member h f b g) e =
      let (q, a) = head_same h e in
      let (x, us, c, i) = closed a in
      let (y, vs, d, j) = closed (shape_same f i) in
      let m = members_same g j in
      record { left = m.left; form = member c d b m.form; same_left = m.same_left }

-- a shape text's tokens at other places are a right text of the same shape
pub shape_places : {s : Shape} {ts us : List Placed} → ShapeForm ts s [] → Same ts us → ShapeForm us s []
shape_places {s} {us = us} f e = ended (shape_same f e)
  where
    nothing_left : {ts vs : List Placed} → Same [] vs → ShapeForm ts s vs → ShapeForm ts s []
    nothing_left same_none f = f

    ended : Moved (λ vs us. ShapeForm vs s us) us [] → ShapeForm us s []
    ended m = nothing_left m.same_left m.form

-- ---- readers: the forms keep other places

place_same
    : {k : ℕ} {p : Place} {ts us vs : List Placed} → PlaceForm k ts p us → Same ts vs
    → (q : Place) × Moved (λ vs us. PlaceForm k vs q us) vs us
place_same (it_form {n = n} h i) e =
    let (q, a) = head_same h e in
    let (x, y, us, c, j) = closed_two a in
    (Place.it q n, record { left = us; form = it_form c i; same_left = j })
place_same (field_form {n = n} h f) e =
    let (q, a) = head_same h e in
    let (x, us, c, j) = closed a in
    let (p, m) = place_same f j in
    let (y, vs, d, l) = closed m in
    (Place.field q n p, record { left = vs; form = field_form c d; same_left = l })

mutual
  unfolding among_pairs

  result_same
      : {k : ℕ} {r : Result} {ts us vs : List Placed} → ResultForm k ts r us → Same ts vs
      → (s : Result) × Moved (λ vs us. ResultForm k vs s us) vs us
  result_same (convert_form {c = c} w h f) e =
      let (x, a) = head_same h e in
      let (q, m) = place_same f a.same_left in
      let (y, vs, d, l) = closed m in
      (Result.convert x c q, record { left = vs; form = convert_form w a.form d; same_left = l })
  result_same (keep_form h f) e =
      let (x, a) = head_same h e in
      let (q, m) = place_same f a.same_left in
      let (y, vs, d, l) = closed m in
      (Result.keep x q, record { left = vs; form = keep_form a.form d; same_left = l })
  result_same (count_form h f) e =
      let (x, a) = head_same h e in
      let (q, m) = place_same f a.same_left in
      let (y, vs, d, l) = closed m in
      (Result.count x q, record { left = vs; form = count_form a.form d; same_left = l })
  result_same (each_form h f g) e =
      let (x, a) = head_same h e in
      let (q, m) = place_same f a.same_left in
      let (r, n) = result_same g m.same_left in
      let (y, vs, d, l) = closed n in
      (Result.each x q r, record { left = vs; form = each_form a.form m.form d; same_left = l })
  result_same (when_form {t = t} h w f g i) e =
      let (x, a) = head_same h e in
      let (z, us, c, j) = closed a in
      let (q, m) = place_same f j in
      let (r₁, n) = result_same g m.same_left in
      let (r₂, o) = result_same i n.same_left in
      let (y, vs, d, l) = closed o in
      (Result.when x t q r₁ r₂, record { left = vs; form = when_form c w m.form n.form d; same_left = l })
  result_same (if_form h f g i) e =
      let (x, a) = head_same h e in
      let (r₁, m) = result_same f a.same_left in
      let (r₂, n) = result_same g m.same_left in
      let (r₃, o) = result_same i n.same_left in
      let (y, vs, d, l) = closed o in
      (Result.choose x r₁ r₂ r₃, record { left = vs; form = if_form a.form m.form n.form d; same_left = l })
  result_same (num_form {n = n} h w) e =
      let (x, a) = head_same h e in
      let (y, z, us, c, j) = closed_two a in
      (Result.literal x (Value.number n), record { left = us; form = num_form c w; same_left = j })
  result_same (str_form {t = s} h) e =
      let (x, a) = head_same h e in
      let (y, z, us, c, j) = closed_two a in
      (Result.literal x (Value.text s), record { left = us; form = str_form c; same_left = j })
  result_same (yes_form h) e =
      let (x, a) = head_same h e in
      let (z, us, c, j) = closed a in
      (Result.literal x (Value.bool true), record { left = us; form = yes_form c; same_left = j })
  result_same (no_form h) e =
      let (x, a) = head_same h e in
      let (z, us, c, j) = closed a in
      (Result.literal x (Value.bool false), record { left = us; form = no_form c; same_left = j })
  result_same (none_form h) e =
      let (x, a) = head_same h e in
      let (z, us, c, j) = closed a in
      (Result.literal x Value.null, record { left = us; form = none_form c; same_left = j })
  result_same (pack_form h f) e =
      let (x, a) = head_same h e in
      let (ps, o, m) = pairs_same f a.same_left in
      let (y, vs, d, l) = closed m in
      (Result.pack x ps, record { left = vs; form = pack_form a.form d; same_left = l })

  -- and the names are the same
  pairs_same
      : {k : ℕ} {ps : Pairs} {ts us vs : List Placed} → PairsForm k ts ps us → Same ts vs
      → (qs : Pairs) × ((n : Bytes) → among_pairs n qs ≡ among_pairs n ps) × Moved (λ vs us. PairsForm k vs qs us) vs us
  pairs_same no_pair e = (no_pairs, λ n. refl, record { left = _; form = no_pair; same_left = e })
  pairs_same (next_pair {n = n} c f h g) e =
      let a = name_same c e in
      let (r, m) = result_same f a.same_left in
      let (qs, i, o) = pairs_same g m.same_left in (
        pair n r qs,
        λ b. ap (λ z. same b n || z) (i b),
        record { left = o.left; form = next_pair a.form m.form (i n ∙ h) o.form; same_left = o.same_left },
      )

-- a right text's tokens at other places are a right text
pub reader_places : {ts us : List Placed} → ReaderText ts → Same ts us → ReaderText us
reader_places {us = us} (inr i) e = inr (none_left (subst (λ ts. Same ts us) i e))
  where
    none_left : {vs : List Placed} → Same [] vs → vs ≡ []
    none_left same_none = refl
reader_places {us = us} (inl (r, f)) e = ended (result_same f e)
  where
    nothing_left : {s : Result} {ts vs : List Placed} → Same [] vs → ResultForm 1 ts s vs → ResultForm 1 ts s []
    nothing_left same_none f = f

    ended : (s : Result) × Moved (λ vs us. ResultForm 1 vs s us) us [] → ReaderText us
    ended (s, m) = inl (s, nothing_left m.same_left m.form)

pub place_places : {ts us : List Placed} → PlaceText ts → Same ts us → PlaceText us
place_places {us = us} (p, f) e = ended (place_same f e)
  where
    nothing_left : {q : Place} {ts vs : List Placed} → Same [] vs → PlaceForm 1 ts q vs → PlaceForm 1 ts q []
    nothing_left same_none f = f

    ended : (q : Place) × Moved (λ vs us. PlaceForm 1 vs q us) us [] → PlaceText us
    ended (q, m) = (q, nothing_left m.same_left m.form)
