-- What may still come in each state of reading a reader, by the grammar. Assumes nothing.
use Rattle.std.specs.Prelude.{ℕ, suc, ◌≡◌, true, false, List, [], ◌∷◌}
use Rattle.definitions.specs.Bytes.{Bytes, bytes}
use Rattle.definitions.specs.Number.{Numeral, number_of}
use Rattle.definitions.specs.Value.{Value}
use Rattle.definitions.specs.Reader.{Place, Conversion, Test, Result, Pairs, no_pairs, pair, each_body, when_first, when_second, if_first}
use Rattle.definitions.specs.Reader.{if_second, if_third, Around, in_form, converts, keeps, counts, maps, tests, PlaceAround, in_field}
use Rattle.definitions.specs.Reader.{in_result, place_open, place_word, it_index, field_name, place_close, result_open, result_word}
use Rattle.definitions.specs.Reader.{when_test, num_number, str_text, pack_name, result_close, State, want, whole_place, whole_result}
use Rattle.definitions.specs.Reader.{use_place, put_place, use_result, put_result, binds, bindings, place_bindings, among_pairs, pairs_onto}
use Rattle.definitions.specs.Tokens.{opening, closing, quoted, word, Placed}
use Rattle.laws.specs.FormGrammar.{at, head, NumberWord, number_meant, IndexWord, ConversionWord, TestWord, PlaceForm}
use Rattle.laws.specs.FormGrammar.{it_form, field_form, ResultForm, convert_form, keep_form, count_form, each_form, when_form}
use Rattle.laws.specs.FormGrammar.{if_form, num_form, str_form, yes_form, no_form, none_form, pack_form, PairsForm}

-- ---- what may still come

-- no name of the second pairs is among the first
abbrev pub Apart : Pairs → Pairs → Type 0
Apart ps no_pairs = Unit {0}
Apart ps (pair n r qs) = (among_pairs n ps ≡ false) × Apart ps qs

-- what may still come in a state, up to the end of a text that is read to the state z
pub data Rest : State → List Placed → State → Type 0 where
  rest_whole_place : {p : Place} → Rest (whole_place p) [] (whole_place p)
  rest_whole_result : {r : Result} → Rest (whole_result r) [] (whole_result r)
  rest_place
      : {o : PlaceAround} {p : Place} {z : State} {ts us : List Placed} → PlaceForm (place_bindings o) ts p us
      → Rest (put_place p o) us z → Rest (want (place_open o)) ts z
  rest_place_word
      : {o : PlaceAround} {p : Place} {z : State} {x : ℕ} {ts us : List Placed}
      → PlaceForm (place_bindings o) (at x opening ∷ ts) p us → Rest (put_place p o) us z → Rest (want (place_word x o)) ts z
  rest_index
      : {o : PlaceAround} {w : Bytes} {n x y : ℕ} {z : State} {ts : List Placed} → IndexWord (place_bindings o) w n
      → Rest (want (place_close (Place.it x n) o)) ts z → Rest (want (it_index x o)) (at y (word w) ∷ ts) z
  rest_field
      : {o : PlaceAround} {n : Bytes} {x y : ℕ} {z : State} {ts : List Placed} → Rest (want (place_open (in_field x n o))) ts z
      → Rest (want (field_name x o)) (at y (quoted n) ∷ ts) z
  rest_place_close
      : {o : PlaceAround} {p : Place} {y : ℕ} {z : State} {ts : List Placed} → Rest (put_place p o) ts z
      → Rest (want (place_close p o)) (at y closing ∷ ts) z
  rest_result
      : {o : Around} {r : Result} {z : State} {ts us : List Placed} → ResultForm (bindings o) ts r us → Rest (put_result r o) us z
      → Rest (want (result_open o)) ts z
  rest_result_word
      : {o : Around} {r : Result} {z : State} {x : ℕ} {ts us : List Placed} → ResultForm (bindings o) (at x opening ∷ ts) r us
      → Rest (put_result r o) us z → Rest (want (result_word x o)) ts z
  rest_test
      : {o : Around} {t : Test} {w : Bytes} {x y : ℕ} {z : State} {ts : List Placed} → TestWord t w
      → Rest (want (place_open (in_result x (tests t) o))) ts z → Rest (want (when_test x o)) (at y (word w) ∷ ts) z
  rest_num
      : {o : Around} {d : Numeral} {w : Bytes} {x y : ℕ} {z : State} {ts : List Placed} → NumberWord w d
      → Rest (want (result_close (Result.literal x (Value.number (number_of d))) o)) ts z
      → Rest (want (num_number x o)) (at y (word w) ∷ ts) z
  rest_str
      : {o : Around} {t : Bytes} {x y : ℕ} {z : State} {ts : List Placed}
      → Rest (want (result_close (Result.literal x (Value.text t)) o)) ts z → Rest (want (str_text x o)) (at y (quoted t) ∷ ts) z
  rest_pack
      : {o : Around} {ps qs : Pairs} {x y : ℕ} {z : State} {ts us : List Placed} → PairsForm (bindings o) ts qs (at y closing ∷ us)
      → Apart ps qs → Rest (put_result (Result.pack x (pairs_onto ps qs)) o) us z → Rest (want (pack_name x ps o)) ts z
  rest_close
      : {o : Around} {r : Result} {y : ℕ} {z : State} {ts : List Placed} → Rest (put_result r o) ts z
      → Rest (want (result_close r o)) (at y closing ∷ ts) z

-- ---- one token more before it: places

it_closes
    : {o : PlaceAround} {w : Bytes} {n x y v : ℕ} {z : State} {ts : List Placed} → IndexWord (place_bindings o) w n
    → Rest (want (place_close (Place.it x n) o)) ts z → Rest (want (place_word x o)) (at y (word (bytes "it")) ∷ at v (word w) ∷ ts) z
it_closes i (rest_place_close r) = rest_place_word (it_form head i) r

pub it_begins
    : {o : PlaceAround} {x y : ℕ} {z : State} {ts : List Placed} → Rest (want (it_index x o)) ts z
    → Rest (want (place_word x o)) (at y (word (bytes "it")) ∷ ts) z
it_begins (rest_index i r) = it_closes i r

field_closes
    : {o : PlaceAround} {n : Bytes} {p : Place} {x y v : ℕ} {z : State} {ts us : List Placed} → PlaceForm (place_bindings o) ts p us
    → Rest (want (place_close (Place.field x n p) o)) us z
    → Rest (want (place_word x o)) (at y (word (bytes "field")) ∷ at v (quoted n) ∷ ts) z
field_closes f (rest_place_close r) = rest_place_word (field_form head f) r

field_place
    : {o : PlaceAround} {n : Bytes} {x y v : ℕ} {z : State} {ts : List Placed} → Rest (want (place_open (in_field x n o))) ts z
    → Rest (want (place_word x o)) (at y (word (bytes "field")) ∷ at v (quoted n) ∷ ts) z
unfolding put_place place_bindings
field_place (rest_place f r) = field_closes f r

pub field_begins
    : {o : PlaceAround} {x y : ℕ} {z : State} {ts : List Placed} → Rest (want (field_name x o)) ts z
    → Rest (want (place_word x o)) (at y (word (bytes "field")) ∷ ts) z
field_begins (rest_field r) = field_place r

pub place_begins
    : {o : PlaceAround} {x : ℕ} {z : State} {ts : List Placed} → Rest (want (place_word x o)) ts z
    → Rest (want (place_open o)) (at x opening ∷ ts) z
place_begins (rest_place_word f r) = rest_place f r

-- ---- one token more before it: results
convert_closes
    : {o : Around} {c : Conversion} {w : Bytes} {q : Place} {x y : ℕ} {z : State} {ts us : List Placed} → ConversionWord c w
    → PlaceForm (bindings o) ts q us → Rest (want (result_close (Result.convert x c q) o)) us z
    → Rest (want (result_word x o)) (at y (word w) ∷ ts) z
convert_closes w f (rest_close r) = rest_result_word (convert_form w head f) r

pub convert_begins
    : {o : Around} {c : Conversion} {w : Bytes} {x y : ℕ} {z : State} {ts : List Placed} → ConversionWord c w
    → Rest (want (place_open (in_result x (converts c) o))) ts z → Rest (want (result_word x o)) (at y (word w) ∷ ts) z
unfolding put_place use_place place_bindings
convert_begins w (rest_place f r) = convert_closes w f r

keep_closes
    : {o : Around} {q : Place} {x y : ℕ} {z : State} {ts us : List Placed} → PlaceForm (bindings o) ts q us
    → Rest (want (result_close (Result.keep x q) o)) us z → Rest (want (result_word x o)) (at y (word (bytes "keep")) ∷ ts) z
keep_closes f (rest_close r) = rest_result_word (keep_form head f) r

pub keep_begins
    : {o : Around} {x y : ℕ} {z : State} {ts : List Placed} → Rest (want (place_open (in_result x keeps o))) ts z
    → Rest (want (result_word x o)) (at y (word (bytes "keep")) ∷ ts) z
unfolding put_place use_place place_bindings
keep_begins (rest_place f r) = keep_closes f r

count_closes
    : {o : Around} {q : Place} {x y : ℕ} {z : State} {ts us : List Placed} → PlaceForm (bindings o) ts q us
    → Rest (want (result_close (Result.count x q) o)) us z → Rest (want (result_word x o)) (at y (word (bytes "count")) ∷ ts) z
count_closes f (rest_close r) = rest_result_word (count_form head f) r

pub count_begins
    : {o : Around} {x y : ℕ} {z : State} {ts : List Placed} → Rest (want (place_open (in_result x counts o))) ts z
    → Rest (want (result_word x o)) (at y (word (bytes "count")) ∷ ts) z
unfolding put_place use_place place_bindings
count_begins (rest_place f r) = count_closes f r

each_closes
    : {o : Around} {q : Place} {s : Result} {x y : ℕ} {z : State} {ts us vs : List Placed} → PlaceForm (bindings o) ts q us
    → ResultForm (suc (bindings o)) us s vs → Rest (want (result_close (Result.each x q s) o)) vs z
    → Rest (want (result_word x o)) (at y (word (bytes "each")) ∷ ts) z
each_closes f g (rest_close r) = rest_result_word (each_form head f g) r

each_result
    : {o : Around} {q : Place} {x y : ℕ} {z : State} {ts us : List Placed} → PlaceForm (bindings o) ts q us
    → Rest (want (result_open (in_form x (each_body q) o))) us z → Rest (want (result_word x o)) (at y (word (bytes "each")) ∷ ts) z
unfolding put_result use_result bindings binds
each_result f (rest_result g r) = each_closes f g r

pub each_begins
    : {o : Around} {x y : ℕ} {z : State} {ts : List Placed} → Rest (want (place_open (in_result x maps o))) ts z
    → Rest (want (result_word x o)) (at y (word (bytes "each")) ∷ ts) z
unfolding put_place use_place place_bindings
each_begins (rest_place f r) = each_result f r

when_closes
    : {o : Around} {t : Test} {w : Bytes} {q : Place} {s₁ s₂ : Result} {x y v : ℕ} {z : State} {ts us vs ws : List Placed}
    → TestWord t w → PlaceForm (bindings o) ts q us → ResultForm (suc (bindings o)) us s₁ vs
    → ResultForm (suc (bindings o)) vs s₂ ws → Rest (want (result_close (Result.when x t q s₁ s₂) o)) ws z
    → Rest (want (result_word x o)) (at y (word (bytes "when")) ∷ at v (word w) ∷ ts) z
when_closes k f g h (rest_close r) = rest_result_word (when_form head k f g h) r

when_other
    : {o : Around} {t : Test} {w : Bytes} {q : Place} {s₁ : Result} {x y v : ℕ} {z : State} {ts us vs : List Placed}
    → TestWord t w → PlaceForm (bindings o) ts q us → ResultForm (suc (bindings o)) us s₁ vs
    → Rest (want (result_open (in_form x (when_second t q s₁) o))) vs z
    → Rest (want (result_word x o)) (at y (word (bytes "when")) ∷ at v (word w) ∷ ts) z
unfolding put_result use_result bindings binds
when_other k f g (rest_result h r) = when_closes k f g h r

when_result
    : {o : Around} {t : Test} {w : Bytes} {q : Place} {x y v : ℕ} {z : State} {ts us : List Placed} → TestWord t w
    → PlaceForm (bindings o) ts q us → Rest (want (result_open (in_form x (when_first t q) o))) us z
    → Rest (want (result_word x o)) (at y (word (bytes "when")) ∷ at v (word w) ∷ ts) z
unfolding put_result use_result bindings binds
when_result k f (rest_result g r) = when_other k f g r

when_place
    : {o : Around} {t : Test} {w : Bytes} {x y v : ℕ} {z : State} {ts : List Placed} → TestWord t w
    → Rest (want (place_open (in_result x (tests t) o))) ts z
    → Rest (want (result_word x o)) (at y (word (bytes "when")) ∷ at v (word w) ∷ ts) z
unfolding put_place use_place place_bindings
when_place k (rest_place f r) = when_result k f r

pub when_begins
    : {o : Around} {x y : ℕ} {z : State} {ts : List Placed} → Rest (want (when_test x o)) ts z
    → Rest (want (result_word x o)) (at y (word (bytes "when")) ∷ ts) z
when_begins (rest_test k r) = when_place k r

if_closes
    : {o : Around} {s₁ s₂ s₃ : Result} {x y : ℕ} {z : State} {ts us vs ws : List Placed} → ResultForm (bindings o) ts s₁ us
    → ResultForm (bindings o) us s₂ vs → ResultForm (bindings o) vs s₃ ws
    → Rest (want (result_close (Result.choose x s₁ s₂ s₃) o)) ws z → Rest (want (result_word x o)) (at y (word (bytes "if")) ∷ ts) z
if_closes f g h (rest_close r) = rest_result_word (if_form head f g h) r

if_last
    : {o : Around} {s₁ s₂ : Result} {x y : ℕ} {z : State} {ts us vs : List Placed} → ResultForm (bindings o) ts s₁ us
    → ResultForm (bindings o) us s₂ vs → Rest (want (result_open (in_form x (if_third s₁ s₂) o))) vs z
    → Rest (want (result_word x o)) (at y (word (bytes "if")) ∷ ts) z
unfolding put_result use_result bindings binds
if_last f g (rest_result h r) = if_closes f g h r

if_next
    : {o : Around} {s₁ : Result} {x y : ℕ} {z : State} {ts us : List Placed} → ResultForm (bindings o) ts s₁ us
    → Rest (want (result_open (in_form x (if_second s₁) o))) us z → Rest (want (result_word x o)) (at y (word (bytes "if")) ∷ ts) z
unfolding put_result use_result bindings binds
if_next f (rest_result g r) = if_last f g r

pub if_begins
    : {o : Around} {x y : ℕ} {z : State} {ts : List Placed} → Rest (want (result_open (in_form x if_first o))) ts z
    → Rest (want (result_word x o)) (at y (word (bytes "if")) ∷ ts) z
unfolding put_result use_result bindings binds
if_begins (rest_result f r) = if_next f r

num_closes
    : {o : Around} {d : Numeral} {w : Bytes} {x y v : ℕ} {z : State} {ts : List Placed} → NumberWord w d
    → Rest (want (result_close (Result.literal x (Value.number (number_of d))) o)) ts z
    → Rest (want (result_word x o)) (at y (word (bytes "num")) ∷ at v (word w) ∷ ts) z
num_closes k (rest_close r) = rest_result_word (num_form head (number_meant k)) r

pub num_begins
    : {o : Around} {x y : ℕ} {z : State} {ts : List Placed} → Rest (want (num_number x o)) ts z
    → Rest (want (result_word x o)) (at y (word (bytes "num")) ∷ ts) z
num_begins (rest_num k r) = num_closes k r

str_closes
    : {o : Around} {t : Bytes} {x y v : ℕ} {z : State} {ts : List Placed}
    → Rest (want (result_close (Result.literal x (Value.text t)) o)) ts z
    → Rest (want (result_word x o)) (at y (word (bytes "str")) ∷ at v (quoted t) ∷ ts) z
str_closes (rest_close r) = rest_result_word (str_form head) r

pub str_begins
    : {o : Around} {x y : ℕ} {z : State} {ts : List Placed} → Rest (want (str_text x o)) ts z
    → Rest (want (result_word x o)) (at y (word (bytes "str")) ∷ ts) z
str_begins (rest_str r) = str_closes r

pub yes_begins
    : {o : Around} {x y : ℕ} {z : State} {ts : List Placed} → Rest (want (result_close (Result.literal x (Value.bool true)) o)) ts z
    → Rest (want (result_word x o)) (at y (word (bytes "yes")) ∷ ts) z
yes_begins (rest_close r) = rest_result_word (yes_form head) r

pub no_begins
    : {o : Around} {x y : ℕ} {z : State} {ts : List Placed} → Rest (want (result_close (Result.literal x (Value.bool false)) o)) ts z
    → Rest (want (result_word x o)) (at y (word (bytes "no")) ∷ ts) z
no_begins (rest_close r) = rest_result_word (no_form head) r

pub none_begins
    : {o : Around} {x y : ℕ} {z : State} {ts : List Placed} → Rest (want (result_close (Result.literal x Value.null) o)) ts z
    → Rest (want (result_word x o)) (at y (word (bytes "none")) ∷ ts) z
none_begins (rest_close r) = rest_result_word (none_form head) r

pub pack_begins
    : {o : Around} {x y : ℕ} {z : State} {ts : List Placed} → Rest (want (pack_name x no_pairs o)) ts z
    → Rest (want (result_word x o)) (at y (word (bytes "pack")) ∷ ts) z
unfolding pairs_onto
pack_begins (rest_pack f a r) = rest_result_word (pack_form head f) r

pub result_begins
    : {o : Around} {x : ℕ} {z : State} {ts : List Placed} → Rest (want (result_word x o)) ts z
    → Rest (want (result_open o)) (at x opening ∷ ts) z
result_begins (rest_result_word f r) = rest_result f r
