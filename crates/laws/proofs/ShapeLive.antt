-- Each state of reading a shape text has a completion. Assumes nothing.
use Prim.Native.Nat.compare
use Prim.Native.Nat.{Ordering}
use Prim.Native.Nat.{ℕ, zero, suc, compare}
use Rattle.std.specs.Prelude.{◌≡◌, refl, true, false, List, [], ◌∷◌, ◌++◌}
use Rattle.std.proofs.Common.{◌∙◌, ⊎_elim}
use Rattle.definitions.specs.Bytes.{Bytes, bytes, order}
use Rattle.definitions.specs.Shape.{Kind, among, Shape, Fields, no_fields, field}
use Rattle.definitions.specs.ShapeText.{Parts, Around, text_end, as_element, as_member, shape_open, shape_word, kind_word}
use Rattle.definitions.specs.ShapeText.{member_open, member_word, member_name, member_close, State, want, whole, no_parts}
use Rattle.definitions.specs.ShapeText.{with_element, with_member, put, build, name_fits, step, finished}
use Rattle.definitions.specs.Tokens.{opening, closing, quoted, word, Placed, go, opens}
use Rattle.laws.specs.Bools.{tell}
use Rattle.laws.specs.Names.{before_lt}
use Rattle.laws.specs.FormGrammar.{at}
use Rattle.laws.specs.FormRuns.{stay, on, enter}
use Rattle.laws.proofs.FormStops.{Reaches}
use Rattle.laws.proofs.ShapeWalks.{shape_opens, member_called, member_closed, element_opens, behind_kinds}
use Rattle.laws.proofs.ShapeWalks.{behind_element, members_end, shape_named as shape_goes, member_named as member_goes}

-- ---- each state has a completion

abbrev Live : State → Type 0
Live q = (rest : List Placed) × Reaches step finished q rest

live_on : {q r : State} (t : Placed) → step q t ≡ go r → Live r → Live q
live_on t e (ts, h) =
    (t ∷ ts, record { depths = h.depths; last = h.last; value = h.value; walk = on e h.walk; is_whole = h.is_whole })

live_enter : {q r : State} {d : ℕ} (t : Placed) → step q t ≡ opens d r → Live r → Live q
live_enter {d = d} t e (ts, h) =
    (t ∷ ts, record { depths = d ∷ h.depths; last = h.last; value = h.value; walk = enter e h.walk; is_whole = h.is_whole })

live_put : (o : Around) (s : Shape) → Live (put s o)
unfolding put finished
live_put text_end s = ([], record { depths = []; last = whole s; value = s; walk = stay; is_whole = refl })
live_put (as_element p o) s = live_on (at 0 closing) (members_end behind_element 0) (live_put o (build (with_element s p)))
live_put (as_member p n o) s =
    live_on
    (at 0 closing)
    (member_closed (with_member n s p) o 0)
    (live_on (at 0 closing) (members_end behind_element 0) (live_put o (build (with_member n s p))))

live_word : (o : Around) → Live (want (shape_word o))
unfolding no_parts among
live_word o =
    live_on
    (at 0 (word (bytes "shape")))
    (shape_goes o 0)
    (live_on (at 0 closing) (members_end (behind_kinds {p = no_parts} refl) 0) (live_put o (build no_parts)))

live_open : (o : Around) → Live (want (shape_open o))
live_open o = live_enter (at 0 opening) (shape_opens o 0) (live_word o)

-- a name behind every name
compare_same : (x : ℕ) → compare x x ≡ Ordering.eq
compare_same zero = compare.zero-zero
compare_same (suc x) = compare.suc-suc x x ∙ compare_same x

longer_behind : (n : Bytes) → order n (n ++ 0 ∷ []) ≡ Ordering.lt
unfolding order
longer_behind [] = refl
longer_behind (x ∷ xs) = rw (compare_same x, order) (longer_behind xs)

fitting : (fs : Fields) → (n : Bytes) × (name_fits fs n ≡ true)
unfolding name_fits
fitting no_fields = ([], refl)
fitting (field m s fs) = (m ++ 0 ∷ [], before_lt m (m ++ 0 ∷ []) (longer_behind m))

live_members : (p : Parts) (o : Around) → Live (want (member_open p o))
live_members p o = live_on (at 0 closing) (members_end behind_element 0) (live_put o (build p))

live_name : (p : Parts) (o : Around) → Live (want (member_name p o))
live_name p o =
    let n = fitting p.fields in
    live_on (at 0 (quoted n.0)) (member_called p o n.0 0 n.1) (live_open (as_member p n.0 o))

pub live : (q : State) → Live q
unfolding finished
live (whole s) = ([], record { depths = []; last = whole s; value = s; walk = stay; is_whole = refl })
live (want (shape_open o)) = live_open o
live (want (shape_word o)) = live_word o
live (want (kind_word p o)) =
    ⊎_elim
    (λ (h : among Kind.list p.kinds ≡ true).
    live_enter (at 0 opening) (element_opens p o 0 h) (live_word (as_element p o)))
    (λ (h : among Kind.list p.kinds ≡ false). live_on (at 0 closing) (members_end (behind_kinds h) 0) (live_put o (build p)))
    (tell (among Kind.list p.kinds))
live (want (member_open p o)) = live_members p o
live (want (member_word p o)) = live_on (at 0 (word (bytes "member"))) (member_goes p o 0) (live_name p o)
live (want (member_name p o)) = live_name p o
live (want (member_close p o)) = live_on (at 0 closing) (member_closed p o 0) (live_members p o)
