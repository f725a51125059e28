-- The causes of refusals 3 to 6 in a text that may break later, said by the grammar alone: what stands before a place is
-- the beginning of some JSON text. Nothing here mentions how a text is read. Assumes nothing.
use Rattle.std.specs.Prelude.{ℕ, suc, ◌+◌, ◌<◌, ◌≤◌, ◌≡◌, ◌⊎◌, true, [], ◌∷◌, ◌++◌, length}
use Rattle.definitions.specs.declared.Limits.{Limits}
use Rattle.definitions.specs.Bytes.{Bytes}
use Rattle.definitions.specs.Outcome.{Outcome, refused}
use Rattle.definitions.specs.Number.{Numeral, beyond}
use Rattle.definitions.specs.Value.{size_items, size_members, has_name}
use Rattle.laws.specs.Tree.{Tree, Trees, no_trees, tree, Named, no_named, named, meaning_trees, meaning_named}
use Rattle.laws.specs.Rfc8259.{ws_char, ws, begin_array, begin_object, name_separator, value_separator, number, string, value, JSONText}

-- ---- where a value or a name may begin

-- the arrays and objects that are open, each with what it holds so far, latest first, and an object with the name of the
-- value that comes
pub data Context : Type 0 where
  top : Context
  in_array : Trees → Context → Context
  in_object : Named → Bytes → Context → Context

mutual
  -- in s a value may begin where r is left
  pub data Before (s : Bytes) : Context → Bytes → Type 0 where
    start : {r : Bytes} → ws s r → Before s top r
    first_value : {k : Context} {t r : Bytes} → Before s k t → begin_array t r → Before s (in_array no_trees k) r
    next_value
        : {k : Context} {ts : Trees} {x : Tree} {t u r : Bytes} → Before s (in_array ts k) t → value t x u → value_separator u r
        → Before s (in_array (tree x ts) k) r
    member_value
        : {k : Context} {ns : Named} {n t u r : Bytes} → BeforeName s ns k t → string t n u → name_separator u r
        → Before s (in_object ns n k) r

  -- in s a name may begin where r is left, behind these members of its object
  pub data BeforeName (s : Bytes) : Named → Context → Bytes → Type 0 where
    first_name : {k : Context} {t r : Bytes} → Before s k t → begin_object t r → BeforeName s no_named k r
    next_name
        : {k : Context} {ns : Named} {n : Bytes} {x : Tree} {t u r : Bytes} → Before s (in_object ns n k) t → value t x u
        → value_separator u r → BeforeName s (named n x ns) k r

-- how many values are begun before
unfoldable pub begun : Context → ℕ
begun top = 0
begun (in_array ts k) = suc (begun k + size_items (meaning_trees ts))
begun (in_object ns n k) = suc (begun k + size_members (meaning_named ns))

-- how many arrays and objects are open
unfoldable pub open_around : Context → ℕ
open_around top = 0
open_around (in_array ts k) = suc (open_around k)
open_around (in_object ns n k) = suc (open_around k)

-- ---- the causes

-- some JSON text begins with these bytes
pub record Begins (pre : Bytes) : Type 0 where
  pub rest : Bytes
  pub tree : Tree
  pub text : JSONText (pre ++ rest) tree

-- 3: "first byte after which no JSON text could follow, or the end": r is left
pub data Breaks (pre : Bytes) : Bytes → Type 0 where
  at_byte : {b : ℕ} {r : Bytes} → Begins pre → (Begins (pre ++ b ∷ []) → ⊥) → Breaks pre (b ∷ r)
  at_end : Begins pre → ((x : Tree) → JSONText pre x → ⊥) → Breaks pre []

-- 4: "a complete number (the longest run that could begin one is one) beyond coefficient or scale, or with an exponent"
pub record Beyond (s r : Bytes) : Type 0 where
  pub context : Context
  pub before : Before s context r
  pub run : Bytes
  pub behind : Bytes
  pub digits : Numeral
  pub split : r ≡ run ++ behind
  pub complete : number r digits behind
  -- no number takes in the run and the byte b behind it
  pub longest
      : (b : ℕ) (w : Bytes) → behind ≡ b ∷ w → (d : Numeral) (c u : Bytes) → number (run ++ b ∷ c) d u → length u ≤ length c → ⊥
  pub over : beyond digits ≡ true

-- 5: "a name a second time in a record"
pub record Again (s r : Bytes) : Type 0 where
  pub context : Context
  pub members : Named
  pub before : BeforeName s members context r
  pub name : Bytes
  pub behind : Bytes
  pub complete : string r name behind
  pub listed : has_name name (meaning_named members) ≡ true

-- 6: "a 513th value begun, or one begun at nesting 33": by a byte that begins some value
pub record Full (l : Limits) (s r : Bytes) : Type 0 where
  pub context : Context
  pub before : Before s context r
  pub first : ℕ
  pub others : Bytes
  pub split : r ≡ first ∷ others
  -- by the RFC's begin-array and begin-object a value may begin with white space, which is not where it is begun
  pub no_space : ws_char first → ⊥
  -- some value begins with that byte
  pub rest : Bytes
  pub tree : Tree
  pub behind : Bytes
  pub begins : value (first ∷ rest) tree behind
  pub over : (l.values < suc (begun context)) ⊎ (l.nesting < suc (open_around context))

-- the cause of a refusal of text s, by number and place
pub data Cause (l : Limits) (s : Bytes) : ℕ → ℕ → Type 0 where
  cause_3 : (pre r : Bytes) → s ≡ pre ++ r → Breaks pre r → Cause l s 3 (length pre)
  cause_4 : (pre r : Bytes) → s ≡ pre ++ r → Beyond s r → Cause l s 4 (length pre)
  cause_5 : (pre r : Bytes) → s ≡ pre ++ r → Again s r → Cause l s 5 (length pre)
  cause_6 : (pre r : Bytes) → s ≡ pre ++ r → Full l s r → Cause l s 6 (length pre)

-- "the smallest place, then the smaller number"
pub data First (n p m q : ℕ) : Type 0 where
  earlier : p < q → First n p m q
  same_place : p ≡ q → n ≤ m → First n p m q

-- an outcome is a refusal that goes before the cause m at q, or is it
abbrev pub RefusedFirst : {A : Type 0} → Outcome ℕ A → (m q : ℕ) → Type 0
RefusedFirst o m q = (n : ℕ) × (p : ℕ) × (o ≡ refused n p) × First n p m q
