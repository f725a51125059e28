-- Where the elements of a list and the members of a record stand in the node table: from one row up to another. Assumes nothing.
use Rattle.std.specs.Prelude.{ℕ, ◌+◌, ◌<◌, ◌≡◌, List, ◌++◌, length, get_or, take, drop}
use Rattle.definitions.specs.Bytes.{Bytes}
use Rattle.definitions.specs.Number.{Number}
use Rattle.definitions.specs.Value.{Value, Items, item, Members, no_members, member}
use Rattle.nodes.specs.Nodes.{head_word, Refers, Rows, ItemRows, MemberRows, row_size}

-- the rows of v stand in the table from a row on, under the name word m; p is the used part of the pool
pub record ValueStands (nodes p : List ℕ) (at m : ℕ) (v : Value) : Type 0 where
  pub rows : List ℕ
  pub rest : List ℕ
  pub encoded : Rows p m v rows
  pub placed : drop at nodes ≡ rows ++ rest

-- of a number the first two words of its row are enough
pub record NumberStands (nodes : List ℕ) (row : ℕ) (x : Number) : Type 0 where
  pub head : get_or nodes row 0 ≡ head_word (Value.number x)
  pub payload : get_or nodes (row + 1) 0 ≡ x.coefficient
  pub small : x.scale < 16

pub record ItemsStand (nodes p : List ℕ) (at end : ℕ) (vs : Items) : Type 0 where
  pub rows : List ℕ
  pub rest : List ℕ
  pub encoded : ItemRows p vs rows
  pub placed : drop at nodes ≡ rows ++ rest
  pub reaches : at + length rows ≡ end

pub record MembersStand (nodes p : List ℕ) (at end : ℕ) (ms : Members) : Type 0 where
  pub rows : List ℕ
  pub rest : List ℕ
  pub encoded : MemberRows p ms rows
  pub placed : drop at nodes ≡ rows ++ rest
  pub reaches : at + length rows ≡ end

-- ---- the first of them

pub record FirstItem (nodes p : List ℕ) (at end : ℕ) (vs : Items) : Type 0 where
  pub value : Value
  pub others : Items
  pub same : vs ≡ item value others
  pub stands : ValueStands nodes p at 0 value
  pub more : ItemsStand nodes p (at + row_size nodes at) end others

pub record FirstMember (nodes p : List ℕ) (at end : ℕ) (ms : Members) : Type 0 where
  pub name : Bytes
  pub word : ℕ
  pub value : Value
  pub others : Members
  pub same : ms ≡ member name value others
  pub refers : Refers p name word
  pub stands : ValueStands nodes p at word value
  pub more : MembersStand nodes p (at + row_size nodes at) end others

-- ---- what a walk over members asks

-- some members stand there
pub record SomeMembers (nodes : List ℕ) (at end : ℕ) : Type 0 where
  pub used : List ℕ
  pub members : Members
  pub stand : MembersStand nodes used at end members

-- how many members there are
unfoldable pub member_count : Members → ℕ
member_count no_members = 0
member_count (member n v ms) = member_count ms + 1

-- some members stand there, their names in the pool
pub record MembersHeld (nodes pool : List ℕ) (at end : ℕ) : Type 0 where
  pub used : List ℕ
  pub members : Members
  pub front : take (length used) pool ≡ used
  pub small : length used < 65536
  pub stand : MembersStand nodes used at end members
