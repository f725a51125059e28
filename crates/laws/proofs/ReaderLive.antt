-- Each state of reading a reader has a completion. Assumes nothing.
use Rattle.std.specs.Prelude.{ℕ, ◌<◌, ◌≡◌, refl, Bool, true, false, List, [], ◌∷◌}
use Rattle.std.proofs.Common.{arith}
use Rattle.definitions.specs.Bytes.{bytes}
use Rattle.definitions.specs.Number.{no_digits, beyond, number_of, most_coefficient, most_scale}
use Rattle.definitions.specs.Value.{Value}
use Rattle.definitions.specs.Reader.{Place, Test, Result, no_pairs, pair, each_body, when_first, when_second, if_first, if_second, if_third}
use Rattle.definitions.specs.Reader.{pack_part, Around, text_end, in_form, PlaceUse, converts, keeps, counts, maps, tests, PlaceAround}
use Rattle.definitions.specs.Reader.{place_end, in_field, in_result, place_open, place_word, it_index, field_name, place_close, result_open}
use Rattle.definitions.specs.Reader.{result_word, when_test, num_number, str_text, pack_name, result_close, State, want, whole_place, whole_result}
use Rattle.definitions.specs.Reader.{use_place, put_place, use_result, put_result, binds, bindings, place_bindings, pairs_onto, step}
use Rattle.definitions.specs.Tokens.{opening, closing, quoted, word, Placed, go, opens}
use Rattle.laws.specs.Rfc8259 as Rfc
use Rattle.laws.specs.FormGrammar.{at, NumberWord, number_word, number_meant, IndexWord, index_word, null_test}
use Rattle.laws.specs.FormRuns.{Walk, stay, on, enter}
use Rattle.laws.proofs.ReaderSteps.{place_opens, it_named, field_called, place_closed, index_goes, result_opens}
use Rattle.laws.proofs.ReaderSteps.{result_closed, none_named, test_named, number_goes, text_goes, pack_closed}

-- ---- what a state is part of

-- a reader, or a place that stands alone
unfoldable pub root_around : PlaceAround → Bool
root_around place_end = false
root_around (in_field x n o) = root_around o
root_around (in_result x u o) = true

unfoldable pub root : State → Bool
root (whole_place p) = false
root (whole_result r) = true
root (want (place_open o)) = root_around o
root (want (place_word x o)) = root_around o
root (want (it_index x o)) = root_around o
root (want (field_name x o)) = root_around o
root (want (place_close p o)) = root_around o
root (want (result_open o)) = true
root (want (result_word x o)) = true
root (want (when_test x o)) = true
root (want (num_number x o)) = true
root (want (str_text x o)) = true
root (want (pack_name x ps o)) = true
root (want (result_close r o)) = true

-- the whole of it
pub data Ends : Bool → State → Type 0 where
  ends_place : {p : Place} → Ends false (whole_place p)
  ends_result : {r : Result} → Ends true (whole_result r)

pub record Live (b : Bool) (q : State) : Type 0 where
  pub rest : List Placed
  pub depths : List ℕ
  pub last : State
  pub walk : Walk step q rest depths last []
  pub ends : Ends b last

-- ---- completions

live_on : {b : Bool} {q r : State} (t : Placed) → step q t ≡ go r → Live b r → Live b q
live_on t e h = record { rest = t ∷ h.rest; depths = h.depths; last = h.last; walk = on e h.walk; ends = h.ends }

live_enter : {b : Bool} {q r : State} {d : ℕ} (t : Placed) → step q t ≡ opens d r → Live b r → Live b q
live_enter {d = d} t e h =
    record { rest = t ∷ h.rest; depths = d ∷ h.depths; last = h.last; walk = enter e h.walk; ends = h.ends }

live_close : (r : Result) (o : Around) → Live true (put_result r o) → Live true (want (result_close r o))
live_close r o h = live_on (at 0 closing) (result_closed r o 0) h

-- `none)` and `(none)`
live_word : (x : ℕ) (o : Around) → ((r : Result) → Live true (put_result r o)) → Live true (want (result_word x o))
live_word x o h =
    live_on (at 0 (word (bytes "none"))) (none_named x o 0) (live_close (Result.literal x Value.null) o (h (Result.literal x Value.null)))

live_open : (o : Around) → ((r : Result) → Live true (put_result r o)) → Live true (want (result_open o))
live_open o h = live_enter (at 0 opening) (result_opens o 0) (live_word 0 o h)

-- behind a result
live_put : (o : Around) (r : Result) → Live true (put_result r o)
unfolding put_result use_result
live_put text_end r = record { rest = []; depths = []; last = whole_result r; walk = stay; ends = ends_result }
live_put (in_form x (each_body p) o) r = live_close (Result.each x p r) o (live_put o (Result.each x p r))
live_put (in_form x (when_first t p) o) r =
    live_open (in_form x (when_second t p r) o) (λ s. live_close (Result.when x t p r s) o (live_put o (Result.when x t p r s)))
live_put (in_form x (when_second t p r₁) o) r = live_close (Result.when x t p r₁ r) o (live_put o (Result.when x t p r₁ r))
live_put (in_form x if_first o) r =
    live_open
    (in_form x (if_second r) o)
    (λ s. live_open (in_form x (if_third r s) o) (λ u. live_close (Result.choose x r s u) o (live_put o (Result.choose x r s u))))
live_put (in_form x (if_second r₁) o) r =
    live_open (in_form x (if_third r₁ r) o) (λ u. live_close (Result.choose x r₁ r u) o (live_put o (Result.choose x r₁ r u)))
live_put (in_form x (if_third r₁ r₂) o) r = live_close (Result.choose x r₁ r₂ r) o (live_put o (Result.choose x r₁ r₂ r))
live_put (in_form x (pack_part ps n) o) r =
    live_on (at 0 closing) (pack_closed x (pair n r ps) o 0) (live_put o (Result.pack x (pairs_onto (pair n r ps) no_pairs)))

-- behind a place
live_use : (x : ℕ) (u : PlaceUse) (p : Place) (o : Around) → Live true (want (use_place x u p o))
unfolding use_place
live_use x (converts c) p o = live_close (Result.convert x c p) o (live_put o (Result.convert x c p))
live_use x keeps p o = live_close (Result.keep x p) o (live_put o (Result.keep x p))
live_use x counts p o = live_close (Result.count x p) o (live_put o (Result.count x p))
live_use x maps p o = live_open (in_form x (each_body p) o) (live_put (in_form x (each_body p) o))
live_use x (tests t) p o = live_open (in_form x (when_first t p) o) (live_put (in_form x (when_first t p) o))

live_put_place : (o : PlaceAround) (p : Place) → Live (root_around o) (put_place p o)
unfolding put_place root_around
live_put_place place_end p = record { rest = []; depths = []; last = whole_place p; walk = stay; ends = ends_place }
live_put_place (in_field x n o) p = live_on (at 0 closing) (place_closed (Place.field x n p) o 0) (live_put_place o (Place.field x n p))
live_put_place (in_result x u o) p = live_use x u p o

-- `0` is a number word, and there is always a binding
zero_word : NumberWord (bytes "0") no_digits
unfolding bytes beyond no_digits most_coefficient most_scale
zero_word = number_word (Rfc.numeral Rfc.no_minus Rfc.int_zero Rfc.no_frac Rfc.no_exp) refl

bound : (o : Around) → 0 < bindings o
unfolding bindings binds
bound text_end = omega arith
bound (in_form x (each_body p) o) = omega arith
bound (in_form x (when_first t p) o) = omega arith
bound (in_form x (when_second t p r) o) = omega arith
bound (in_form x if_first o) = bound o
bound (in_form x (if_second r) o) = bound o
bound (in_form x (if_third r₁ r₂) o) = bound o
bound (in_form x (pack_part ps n) o) = bound o

bound_place : (o : PlaceAround) → 0 < place_bindings o
unfolding place_bindings
bound_place place_end = omega arith
bound_place (in_field x n o) = bound_place o
bound_place (in_result x u o) = bound o

zero_index : (o : PlaceAround) → IndexWord (place_bindings o) (bytes "0") 0
unfolding no_digits
zero_index o = index_word {d = no_digits} zero_word refl refl (bound_place o)

live_index : (x : ℕ) (o : PlaceAround) → Live (root_around o) (want (it_index x o))
live_index x o =
    live_on
    (at 0 (word (bytes "0")))
    (index_goes (zero_index o) x o 0 refl)
    (live_on (at 0 closing) (place_closed (Place.it x 0) o 0) (live_put_place o (Place.it x 0)))

live_place_word : (x : ℕ) (o : PlaceAround) → Live (root_around o) (want (place_word x o))
live_place_word x o = live_on (at 0 (word (bytes "it"))) (it_named x o 0) (live_index x o)

live_place : (o : PlaceAround) → Live (root_around o) (want (place_open o))
live_place o = live_enter (at 0 opening) (place_opens o 0) (live_place_word 0 o)

pub live : (q : State) → Live (root q) q
unfolding root root_around
live (whole_place p) = record { rest = []; depths = []; last = whole_place p; walk = stay; ends = ends_place }
live (whole_result r) = record { rest = []; depths = []; last = whole_result r; walk = stay; ends = ends_result }
live (want (place_open o)) = live_place o
live (want (place_word x o)) = live_place_word x o
live (want (it_index x o)) = live_index x o
live (want (field_name x o)) = live_on (at 0 (quoted [])) (field_called x o [] 0) (live_place (in_field x [] o))
live (want (place_close p o)) = live_on (at 0 closing) (place_closed p o 0) (live_put_place o p)
live (want (result_open o)) = live_open o (live_put o)
live (want (result_word x o)) = live_word x o (live_put o)
live (want (when_test x o)) =
    live_on (at 0 (word (bytes "null"))) (test_named null_test x o 0) (live_place (in_result x (tests Test.null) o))
live (want (num_number x o)) =
    live_on
    (at 0 (word (bytes "0")))
    (number_goes (number_meant zero_word) x o 0)
    (live_close (Result.literal x (Value.number (number_of no_digits))) o (live_put o (Result.literal x (Value.number (number_of no_digits)))))
live (want (str_text x o)) =
    live_on
    (at 0 (quoted []))
    (text_goes [] x o 0)
    (live_close (Result.literal x (Value.text [])) o (live_put o (Result.literal x (Value.text []))))
live (want (pack_name x ps o)) =
    live_on (at 0 closing) (pack_closed x ps o 0) (live_put o (Result.pack x (pairs_onto ps no_pairs)))
live (want (result_close r o)) = live_close r o (live_put o r)
