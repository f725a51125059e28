-- Reading goes along every right reader: from the state before a form to the state behind it. Assumes nothing.
use Rattle.std.specs.Prelude.{ℕ, suc, ◌≡◌, refl, true, false, List, [], ◌∷◌}
use Rattle.std.proofs.Common.{sym, ◌∙◌, ap, subst}
use Rattle.definitions.specs.Bytes.{Bytes, same}
use Rattle.definitions.specs.Value.{Value}
use Rattle.definitions.specs.Reader.{Place, Result, Pairs, no_pairs, pair, each_body, when_first, when_second, if_first, if_second}
use Rattle.definitions.specs.Reader.{if_third, pack_part, Around, in_form, converts, keeps, counts, maps, tests, PlaceAround}
use Rattle.definitions.specs.Reader.{in_field, in_result, place_open, result_open, pack_name, want, use_place, put_place, use_result}
use Rattle.definitions.specs.Reader.{put_result, depth, place_depth, binds, bindings, place_bindings, among_pairs, pairs_onto, step}
use Rattle.definitions.specs.Tokens.{closing, Placed}
use Rattle.laws.specs.Bools.{or_false_left, or_false_right}
use Rattle.laws.specs.Names.{same_sym}
use Rattle.laws.specs.FormGrammar.{at, PlaceForm, it_form, field_form, ResultForm, convert_form, keep_form, count_form, each_form, when_form}
use Rattle.laws.specs.FormGrammar.{if_form, num_form, str_form, yes_form, no_form, none_form, pack_form, PairsForm, no_pair, next_pair}
use Rattle.laws.specs.FormRuns.{Walk, stay, on, walk_append, walk_then, none_over}
use Rattle.laws.proofs.FormSteps.{head_enter, name_on}
use Rattle.laws.proofs.ReaderRests.{Apart}
use Rattle.laws.proofs.ReaderDepths.{place_depths, result_depths, pairs_depths}
use Rattle.laws.proofs.ReaderSteps.{place_opens, it_named, field_named, field_called, place_closed, index_goes, result_opens, result_closed}
use Rattle.laws.proofs.ReaderSteps.{convert_named, keep_named, count_named, each_named, when_named, if_named, num_named, str_named, yes_named}
use Rattle.laws.proofs.ReaderSteps.{no_named, none_named, pack_named, test_named, number_goes, text_goes, pack_called, pack_closed}

-- ---- walks over forms

pub place_walk
    : {k : ℕ} {p : Place} {ts us : List Placed} → PlaceForm k ts p us → (o : PlaceAround) → k ≡ place_bindings o
    → Walk step (want (place_open o)) ts (place_depths p (place_depth o)) (put_place p o) us
unfolding place_depths place_depth place_bindings put_place
place_walk (it_form {p = x} {x = y} {y = z} {n = n} h i) o e =
    head_enter h (place_opens o x) (it_named x o) (on (index_goes i x o y e) (on (place_closed (Place.it x n) o z) stay))
place_walk (field_form {p = x} {x = y} {y = z} {n = n} {q = q} h f) o e =
    head_enter
    h
    (place_opens o x)
    (field_named x o)
    (on
    (field_called x o n y)
    (walk_then (place_walk f (in_field x n o) e) (place_closed (Place.field x n q) o z)))

-- a name more before
apart_more : (n : Bytes) (r : Result) (ps qs : Pairs) → Apart ps qs → among_pairs n qs ≡ false → Apart (pair n r ps) qs
unfolding among_pairs
apart_more n r ps no_pairs a h = tt
apart_more n r ps (pair m s qs) a h = (
  none_over (same_sym n m ∙ or_false_left (same n m) (among_pairs n qs) h) a.0,
  apart_more n r ps qs a.1 (or_false_right (same n m) (among_pairs n qs) h),
)

-- all are apart from none
apart_none : (qs : Pairs) → Apart no_pairs qs
unfolding among_pairs
apart_none no_pairs = tt
apart_none (pair n r qs) = (refl, apart_none qs)

mutual
  unfolding result_depths depth place_depth bindings binds place_bindings put_place use_place put_result use_result pairs_onto

  pub result_walk
      : {k : ℕ} {r : Result} {ts us : List Placed} → ResultForm k ts r us → (o : Around) → k ≡ bindings o
      → Walk step (want (result_open o)) ts (result_depths r (depth o)) (put_result r o) us
  result_walk (convert_form {p = x} {y = z} {c = c} {q = q} w h f) o e =
      head_enter
      h
      (result_opens o x)
      (convert_named w x o)
      (walk_then (place_walk f (in_result x (converts c) o) e) (result_closed (Result.convert x c q) o z))
  result_walk (keep_form {p = x} {y = z} {q = q} h f) o e =
      head_enter
      h
      (result_opens o x)
      (keep_named x o)
      (walk_then (place_walk f (in_result x keeps o) e) (result_closed (Result.keep x q) o z))
  result_walk (count_form {p = x} {y = z} {q = q} h f) o e =
      head_enter
      h
      (result_opens o x)
      (count_named x o)
      (walk_then (place_walk f (in_result x counts o) e) (result_closed (Result.count x q) o z))
  result_walk (each_form {p = x} {y = z} {q = q} {r = r} h f g) o e =
      head_enter
      h
      (result_opens o x)
      (each_named x o)
      (walk_append
      (place_walk f (in_result x maps o) e)
      (walk_then (result_walk g (in_form x (each_body q) o) (ap suc e)) (result_closed (Result.each x q r) o z)))
  result_walk (when_form {p = x} {x = v} {y = z} {t = t} {q = q} {r₁ = r₁} {r₂ = r₂} h w f g i) o e =
      head_enter
      h
      (result_opens o x)
      (when_named x o)
      (on
      (test_named w x o v)
      (walk_append
      (place_walk f (in_result x (tests t) o) e)
      (walk_append
      (result_walk g (in_form x (when_first t q) o) (ap suc e))
      (walk_then (result_walk i (in_form x (when_second t q r₁) o) (ap suc e)) (result_closed (Result.when x t q r₁ r₂) o z)))))
  result_walk (if_form {p = x} {y = z} {r₁ = r₁} {r₂ = r₂} {r₃ = r₃} h f g i) o e =
      head_enter
      h
      (result_opens o x)
      (if_named x o)
      (walk_append
      (result_walk f (in_form x if_first o) e)
      (walk_append
      (result_walk g (in_form x (if_second r₁) o) e)
      (walk_then (result_walk i (in_form x (if_third r₁ r₂) o) e) (result_closed (Result.choose x r₁ r₂ r₃) o z))))
  result_walk (num_form {p = x} {x = v} {y = z} {n = n} h w) o e =
      head_enter
      h
      (result_opens o x)
      (num_named x o)
      (on (number_goes w x o v) (on (result_closed (Result.literal x (Value.number n)) o z) stay))
  result_walk (str_form {p = x} {x = v} {y = z} {t = t} h) o e =
      head_enter
      h
      (result_opens o x)
      (str_named x o)
      (on (text_goes t x o v) (on (result_closed (Result.literal x (Value.text t)) o z) stay))
  result_walk (yes_form {p = x} {y = z} h) o e =
      head_enter h (result_opens o x) (yes_named x o) (on (result_closed (Result.literal x (Value.bool true)) o z) stay)
  result_walk (no_form {p = x} {y = z} h) o e =
      head_enter h (result_opens o x) (no_named x o) (on (result_closed (Result.literal x (Value.bool false)) o z) stay)
  result_walk (none_form {p = x} {y = z} h) o e =
      head_enter h (result_opens o x) (none_named x o) (on (result_closed (Result.literal x Value.null) o z) stay)
  result_walk (pack_form {p = x} {y = z} {ps = ps} {vs = vs} h f) o e =
      head_enter h (result_opens o x) (pack_named x o) (pairs_walk f x no_pairs o e (apart_none ps) z vs refl)

  pairs_walk
      : {k : ℕ} {qs : Pairs} {ts us : List Placed} → PairsForm k ts qs us → (x : ℕ) (ps : Pairs) (o : Around) → k ≡ bindings o
      → Apart ps qs → (y : ℕ) (vs : List Placed) → us ≡ at y closing ∷ vs
      → Walk step (want (pack_name x ps o)) ts (pairs_depths qs (suc (depth o))) (put_result (Result.pack x (pairs_onto ps qs)) o) vs
  pairs_walk no_pair x ps o e a y vs i =
      subst
      (λ ts. Walk step (want (pack_name x ps o)) ts [] (put_result (Result.pack x (pairs_onto ps no_pairs)) o) vs)
      (sym i)
      (on (pack_closed x ps o y) stay)
  pairs_walk (next_pair {n = n} {r = r} {ps = qs} c f h g) x ps o e a y vs i =
      name_on
      c
      (λ z. pack_called n x ps o z a.0)
      (walk_append
      (result_walk f (in_form x (pack_part ps n) o) e)
      (pairs_walk g x (pair n r ps) o e (apart_more n r ps qs a.1 h) y vs i))
