-- What finding a shape without parts answers: its bytes stand there as they are written. Assumes nothing.
use Rattle.std.specs.Prelude.{ℕ, ◌+◌, ◌<◌, ◌≡◌, true, false, List, [], ◌∷◌, ◌++◌, length, Option, Some, None}
use Rattle.definitions.specs.Bytes.{Bytes}
use Rattle.definitions.specs.Shape.{Kind}
use Rattle.definitions.specs.ShapeText.{kind_name}
use Rattle.definitions.specs.Tokens.{closing}
use Rattle.shapes.specs.Shapes.{kind_bit, has_bit}
use Rattle.tokens.specs.Standing.{StandsAt}
use Rattle.tokens.specs.TokenRead.{Found}
use Rattle.reading.specs.declared.Cursor.{Cursor}
use Rattle.shape_reader.specs.declared.kinds.Kinds.{Kinds}
use Rattle.shape_reader.specs.ShapeParts.{shape_bytes, Follows, Opens}

-- ---- kinds as they are written

-- a space and the word of each kind, and the bracket that ends the shape
unfoldable pub kinds_bytes : List Kind → Bytes
kinds_bytes [] = 0x29 ∷ []
kinds_bytes (k ∷ ks) = 0x20 ∷ kind_name k ++ kinds_bytes ks

-- each kind may follow those before it, whose bits are n; the bits of all are m
pub data InTurn : (n : ℕ) → List Kind → (m : ℕ) → Type 0 where
  no_more : {n : ℕ} → InTurn n [] n
  one_more : {n m : ℕ} {k : Kind} {ks : List Kind} → Follows n (kind_bit k) true → InTurn (n + kind_bit k) ks m → InTurn n (k ∷ ks) m

-- kinds stand from one place up to another, behind those of the bits n; none has parts
pub record KindsStand (n : ℕ) (text : Bytes) (at m end : ℕ) : Type 0 where
  pub listed : List Kind
  pub in_turn : InTurn n listed m
  pub stand : StandsAt text at (kinds_bytes listed)
  pub size : end ≡ at + length (kinds_bytes listed)
  pub bare : has_bit m 32 ≡ false
  pub small : m < 128

-- ---- answers

-- kinds, which may follow null too
abbrev pub OthersAnswer : Bytes → ℕ → Option Kinds → Type 0
OthersAnswer text at (Some k) = KindsStand 0 text at k.kinds.kinds k.end × KindsStand 1 text at (1 + k.kinds.kinds) k.end
OthersAnswer text at None = Unit {0}

pub record OtherKinds (text : Bytes) (at : ℕ) (r : Option Kinds) : Type 0 where
  pub answer : OthersAnswer text at r

-- the bracket, the word `shape` and kinds
abbrev pub LeafAnswer : Bytes → ℕ → Option Kinds → Type 0
LeafAnswer text at (Some k) = StandsAt text at (0x28 ∷ shape_bytes) × KindsStand 0 text (at + 6) k.kinds.kinds k.end
LeafAnswer text at None = Unit {0}

pub record StandsLeaf (text : Bytes) (at : ℕ) (r : Option Kinds) : Type 0 where
  pub answer : LeafAnswer text at r

-- a shape without parts has been read up to the bracket that ends it
pub record LeafFound (text : Bytes) (values left : ℕ) (c : Cursor) (kinds end : ℕ) : Type 0 where
  pub place : ℕ
  pub opens : Opens text values left c kinds place
  pub closed : Found text place closing place (place + 1)
  pub ends : end ≡ place + 1
  pub bare : has_bit kinds 32 ≡ false

abbrev pub FoundAnswer : Bytes → (values left : ℕ) → Cursor → Option Kinds → Type 0
FoundAnswer text values left c (Some k) = LeafFound text values left c k.kinds.kinds k.end
FoundAnswer text values left c None = Unit {0}

pub record FindsLeaf (text : Bytes) (values left : ℕ) (c : Cursor) (r : Option Kinds) : Type 0 where
  pub answer : FoundAnswer text values left c r
