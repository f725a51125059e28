-- What the parts of reading a document answer: each says how `scan` goes from where it starts to where it ends, for every stack
-- of what is open around it, and what it put into the tables. Assumes nothing.
use Rattle.std.specs.Prelude.{ℕ, suc, ◌+◌, ◌-◌, ◌*◌, ◌/◌, ◌%◌, ◌^◌, ◌≤◌, ◌<◌, ◌≡◌, Bool, true, false, List, [], ◌∷◌, ◌++◌, ltb}
use Rattle.std.specs.Prelude.{length, take, drop, get_or, Result, Ok, Err, Some, None, nat_eq, if◌then◌else◌}
use Rattle.std.specs.Prelude as std
use Rattle.std.proofs.Common.{ControlFlow, Continue, Break}
use Rattle.std.proofs.Math.Option.{none, some}
use Rattle.definitions.specs.declared.Limits.{Limits}
use Rattle.definitions.specs.Bytes.{Bytes, look, white}
use Rattle.definitions.specs.Outcome.{refused}
use Rattle.definitions.specs.Value.{Value, Items, no_items, item, items_onto, Members, no_members, member, members_onto, size, size_items, size_members}
use Rattle.definitions.specs.Plain.{plain, plain_text, plain_number}
use Rattle.definitions.specs.Json.{Open, in_list, in_rec, Gap, gap, value_rows, spell, put, depth, full, scan}
use Rattle.nodes.specs.Nodes.{kind_code, number_bits, head_word, head_of, Refers, Rows, MemberRows, ItemsBefore, MembersBefore}
use Rattle.number.specs.declared.NumberRead.{NumberRead}
use Rattle.number.specs.NumberRead.{number_in}
use Rattle.reading.specs.declared.Cause.{Cause}
use Rattle.reading.specs.declared.Cause.TheVariants.{JsonSyntax, NumberLimit, DuplicateName, ValueLimit}
use Rattle.reading.specs.declared.Cursor.{Cursor}
use Rattle.reading.specs.declared.Refusal.{Refusal}
use Rattle.reading.specs.Refusals.{number_of}
use Rattle.json_reader.specs.declared.name.Name.{Name}
use Rattle.json_reader.specs.declared.parts.Bracket.{Bracket}
use Rattle.json_reader.specs.declared.parts.Bracket.TheVariants.{Square, Curly}
use Rattle.json_reader.specs.declared.parts.Part.{Part}

-- ---- answers as words

-- the cause of this number, of those that a document is refused for
abbrev pub cause_of : ℕ → Cause
cause_of n =
    if nat_eq n 3 then JsonSyntax else if nat_eq n 4 then NumberLimit else if nat_eq n 5 then DuplicateName else ValueLimit

-- a document is refused for it
abbrev pub Caused : Cause → Type 0
Caused q = cause_of (number_of q) ≡ q

-- what a word stands for; the highest bit tells
unfoldable pub answer_of : ℕ → Result Cursor Refusal
answer_of r =
    elim (ltb r (2 ^ 63)) [
      | true ↦ Ok (record { at = r % 2 ^ 17; begun = r / 2 ^ 17 % 2 ^ 16; top = r / 2 ^ 33 })
      | false ↦ Err (record { cause = cause_of (r / 2 ^ 32 % 2 ^ 31); place = r % 2 ^ 32 })
    ]

-- a word has room for where reading stands
abbrev pub Packs : Cursor → Type 0
Packs c = (c.at < 2 ^ 17) × (c.begun < 2 ^ 16) × (c.top < 2 ^ 30)

-- ---- between tokens

-- reading goes over white space from one place to another, where none stands
pub record Skips (doc : Bytes) (at r : ℕ) : Type 0 where
  pub run
      : (l : Limits) (n : ℕ) (kept : Bytes) (g : Gap)
      → scan l n kept (gap g) (drop at doc) ≡ scan l n kept (gap g) (drop r doc)
  pub from : at ≤ r
  pub within : r ≤ length doc
  pub stops : white (get_or doc r 256) ≡ false

-- the first byte behind white space is b, and stands right before place r
pub record Token (doc : Bytes) (at b r : ℕ) : Type 0 where
  pub run
      : (l : Limits) (n : ℕ) (kept : Bytes) (g : Gap)
      → scan l n kept (gap g) (drop at doc) ≡ scan l n kept (gap g) (b ∷ drop r doc)
  pub ahead : at < r
  pub within : r ≤ length doc

-- neither b nor c stands at place, the first behind white space
pub record Neither (doc : Bytes) (at b c place : ℕ) : Type 0 where
  pub skips : Skips doc at place
  pub first : get_or doc place 256 ≡ b → ⊥
  pub second : get_or doc place 256 ≡ c → ⊥

-- ---- the limits

-- so many values may begin, and so much nesting is left inside o
pub record OpenLimited (l : Limits) (o : Open) (values left : ℕ) : Type 0 where
  pub most : l.values ≡ values
  pub nests : depth o + left ≡ l.nesting

-- whether a value that begins now is one too many or too deep
pub record JudgesFull (values left begun : ℕ) (r : Bool) : Type 0 where
  pub judged : (l : Limits) (o : Open) → OpenLimited l o values left → r ≡ full l (suc begun) o
  pub within : r ≡ false → (begun < values) × (0 < left)

-- ---- literal names

-- how many bytes of a literal name stand at a place: all of them, or reading breaks off there
pub record Matches (doc : Bytes) (at : ℕ) (name : Bytes) (r : ℕ) : Type 0 where
  pub most : r ≤ length name
  pub within : at + r ≤ length doc
  pub run
      : (l : Limits) (n : ℕ) (kept : Bytes) (v : Value) (o : Open)
      → scan l n kept (spell name v o) (drop at doc) ≡ scan l n kept (spell (drop r name) v o) (drop (at + r) doc)
  pub stops : r < length name → get_or doc (at + r) 256 ≡ get_or name r 256 → ⊥

-- the literal name of a value of this kind
pub record Literal (name : Bytes) (kind : ℕ) : Type 0 where
  pub value : Value
  pub begins : (o : Open) → look (value_rows o) (get_or name 0 256) ≡ some (spell (drop 1 name) value o)
  pub spelled : name ≡ get_or name 0 256 ∷ drop 1 name
  pub wrote : name ≡ plain value
  pub code : kind ≡ kind_code value
  pub bits : number_bits value ≡ 0
  pub single : size value ≡ 1
  pub row : (p : List ℕ) (m : ℕ) → Rows p m value (head_word value ∷ 0 ∷ m ∷ [])
  pub visible : white (get_or name 0 256) ≡ false
  pub byte : get_or name 0 256 < 256

-- ---- values

-- where reading may begin a value, and the table has its row
pub record TablePlaced (doc : Bytes) (nodes : List ℕ) (values : ℕ) (c : Cursor) : Type 0 where
  pub rows : 3 * values ≤ length nodes
  pub short : length doc ≤ 65536
  pub few : values ≤ 32768
  pub within : c.at ≤ length doc
  pub limit : c.begun ≤ values
  -- a reference has 16 bits for a text's first word, and an answer some more
  pub small : c.top < 65536

-- the same, and the pool has room for its text: what is used of it behind another text's is paid for
pub record Ready (doc : Bytes) (nodes pool : List ℕ) (values : ℕ) (c : Cursor) : Type 0 where
  pub placed : TablePlaced doc nodes values c
  -- how many words the other text's texts take
  pub base : ℕ
  pub low : base ≤ 16384
  pub texts : length doc + 8 * values + 8 * base ≤ 8 * length pool + 9
  -- what is used is there
  pub used : c.top ≤ length pool
  pub room : 8 * c.top ≤ c.at + 8 * c.begun + 8 * base

-- how far reading goes over a value that is so long in plain JSON
pub record Moves (doc : Bytes) (values : ℕ) (from to : Cursor) (written : ℕ) : Type 0 where
  pub ahead : from.at < to.at
  pub within : to.at ≤ length doc
  pub limit : to.begun ≤ values
  pub grows : from.top ≤ to.top
  pub room : 8 * to.top + from.at + 8 * from.begun + 3 ≤ to.at + 8 * to.begun + 8 * from.top
  pub short : written + from.at + 20 * from.begun ≤ to.at + 20 * to.begun

-- a value has been read that stood where g says, where n values were begun; its rows follow those of the values before it
pub record ValueDone
    (g : Open → Gap) (n left values : ℕ) (doc : Bytes) (nodes pool nodes' pool' : List ℕ) (name : ℕ) (from to : Cursor)
    : Type 0 where
  pub value : Value
  pub run
      : (l : Limits) (o : Open) → OpenLimited l o values left → (kept : Bytes)
      → scan l n kept (gap (g o)) (drop from.at doc) ≡ scan l to.begun kept (gap (put value o)) (drop to.at doc)
  pub rows : List ℕ
  pub held : Rows (take to.top pool') name value rows
  pub table : take (3 * to.begun) nodes' ≡ take (3 * from.begun) nodes ++ rows
  pub counted : to.begun ≡ from.begun + size value
  -- the first word of its row tells how long it is in plain JSON
  pub wrote : get_or nodes' (3 * from.begun) 0 / 256 ≡ length (plain value)
  pub front : take from.top pool' ≡ take from.top pool
  pub moves : Moves doc values from to (length (plain value))

-- reading is refused
pub record ValueRefused (g : Open → Gap) (n left values : ℕ) (doc : Bytes) (at : ℕ) (r : Refusal) : Type 0 where
  pub run
      : (l : Limits) (o : Open) → OpenLimited l o values left → (kept : Bytes)
      → scan l n kept (gap (g o)) (drop at doc) ≡ refused (number_of r.cause) (drop r.place doc)
  pub within : r.place ≤ length doc

abbrev pub ValueAnswer
    : (g : Open → Gap) (n left values : ℕ) (doc : Bytes) (nodes pool nodes' pool' : List ℕ) (name : ℕ) (from : Cursor) → Result Cursor Refusal → Type 0
ValueAnswer g n left values doc nodes pool nodes' pool' name from (Ok to) =
    ValueDone g n left values doc nodes pool nodes' pool' name from to
ValueAnswer g n left values doc nodes pool nodes' pool' name from (Err r) =
    ValueRefused g n left values doc from.at r

-- the answer r where a value may begin as g says, and the tables that were nodes and pool
pub record Reads
    (g : Open → Gap) (n left values : ℕ) (doc : Bytes) (nodes pool nodes' pool' : List ℕ) (name : ℕ) (from : Cursor)
    (r : Result Cursor Refusal)
    : Type 0 where
  pub answer : ValueAnswer g n left values doc nodes pool nodes' pool' name from r
  pub nodes_kept : length nodes' ≡ length nodes
  pub pool_kept : length pool' ≡ length pool

-- ---- scalars

-- a byte that no value begins with but a number
pub record NoRow (b : ℕ) : Type 0 where
  pub visible : white b ≡ false
  pub no_value : (o : Open) → look (value_rows o) b ≡ none

-- a byte that begins no list and no record
pub record ScalarByte (b : ℕ) : Type 0 where
  pub visible : white b ≡ false
  pub no_list : b ≡ 0x5B → ⊥
  pub no_record : b ≡ 0x7B → ⊥

-- a number that was read from a place on is as long as plain JSON, if it is not zero
pub record AsRead (at : ℕ) (x : NumberRead) : Type 0 where
  pub behind : at ≤ x.end
  pub long : (x.coefficient ≡ 0 → ⊥) → length (plain_number (number_in x)) ≡ x.end - at

-- the row of a number is put, and reading goes on behind it
pub record PutsNumber (nodes nodes' : List ℕ) (c : Cursor) (name : ℕ) (x : NumberRead) (r : ℕ) : Type 0 where
  pub row
      : nodes'
      ≡ take (3 * c.begun) nodes ++ head_word (Value.number (number_in x)) ∷ x.coefficient ∷ name ∷ drop (3 * c.begun + 3) nodes
  pub answer : answer_of r ≡ Ok (record { at = x.end; begun = c.begun + 1; top = c.top })
  pub short : length (plain_number (number_in x)) ≤ 20

-- ---- names

-- the members whose rows stand from one word up to another
pub record NamedRows (nodes pool : List ℕ) (from to : ℕ) (ms : Members) : Type 0 where
  pub used : ℕ
  pub within : used ≤ length pool
  pub few : used < 65536
  pub held : MemberRows (take used pool) ms (drop from (take to nodes))

-- there are some, and the rows are there
pub record Walkable (nodes pool : List ℕ) (from to : ℕ) : Type 0 where
  pub members : Members
  pub named : NamedRows nodes pool from to members
  pub ordered : from ≤ to
  pub within : to ≤ length nodes

-- the members before c, latest first; their rows begin at that of value `first`
pub record MembersAt (nodes pool : List ℕ) (first : ℕ) (c : Cursor) (ms : Members) : Type 0 where
  pub rows : List ℕ
  pub held : MembersBefore (take c.top pool) ms rows
  pub table : drop (3 * first) (take (3 * c.begun) nodes) ≡ rows

-- the bit of a name among 64: by its first byte and its length
unfoldable pub name_place : Bytes → ℕ
name_place n = (get_or n 0 0 + 5 * length n) % 64

-- the bits of these names are set
pub data Covers (seen : ℕ) : Members → Type 0 where
  covers_none : Covers seen no_members
  covers_more
      : {n : Bytes} {v : Value} {ms : Members} → seen / 2 ^ name_place n % 2 ≡ 1 → Covers seen ms → Covers seen (member n v ms)

-- where a name may begin behind some members
pub record NameReady (doc : Bytes) (nodes pool : List ℕ) (first : ℕ) (c : Cursor) : Type 0 where
  pub values : ℕ
  pub ready : Ready doc nodes pool values c
  -- the record itself is a value without a text
  pub spare : 8 * c.top + 8 ≤ c.at + 8 * c.begun + 8 * ready.base
  pub members : Members
  pub before : MembersAt nodes pool first c members
  pub ordered : first ≤ c.begun

-- how far reading goes over a name and its colon
pub record NameMoves (doc : Bytes) (from to : Cursor) (written : ℕ) : Type 0 where
  pub ahead : from.at < to.at
  pub within : to.at ≤ length doc
  pub begun : to.begun ≡ from.begun
  pub grows : from.top ≤ to.top
  pub room : 8 * to.top + from.at ≤ to.at + 8 * from.top + 4
  pub short : written + 1 + from.at ≤ to.at

pub record NameDone (doc : Bytes) (nodes pool pool' : List ℕ) (first seen : ℕ) (from : Cursor) (read : Name) : Type 0 where
  pub name : Bytes
  pub run
      : (ms : Members) → MembersAt nodes pool first from ms → Covers seen ms → (l : Limits) (n : ℕ) (kept : Bytes) (o : Open)
      → scan l n kept (gap (Gap.next_name ms o)) (drop from.at doc)
      ≡ scan l n kept (gap (Gap.value (in_rec ms name o))) (drop read.to.at doc)
  pub refers : Refers (take read.to.top pool') name read.word
  pub wrote : read.written ≡ length (plain_text name)
  pub covers : (v : Value) {ms : Members} → Covers seen ms → Covers read.seen (member name v ms)
  pub front : take from.top pool' ≡ take from.top pool
  pub moves : NameMoves doc from read.to read.written

pub record NameRefused (doc : Bytes) (nodes pool : List ℕ) (first seen : ℕ) (from : Cursor) (r : Refusal) : Type 0 where
  pub run
      : (ms : Members) → MembersAt nodes pool first from ms → Covers seen ms → (l : Limits) (n : ℕ) (kept : Bytes) (o : Open)
      → scan l n kept (gap (Gap.next_name ms o)) (drop from.at doc) ≡ refused (number_of r.cause) (drop r.place doc)
  pub within : r.place ≤ length doc
  pub caused : Caused r.cause

abbrev pub NameAnswer : (doc : Bytes) (nodes pool pool' : List ℕ) (first seen : ℕ) (from : Cursor) → Result Name Refusal → Type 0
NameAnswer doc nodes pool pool' first seen from (Ok read) = NameDone doc nodes pool pool' first seen from read
NameAnswer doc nodes pool pool' first seen from (Err r) = NameRefused doc nodes pool first seen from r

pub record ReadsName
    (doc : Bytes) (nodes pool pool' : List ℕ) (first seen : ℕ) (from : Cursor) (r : Result Name Refusal)
    : Type 0 where
  pub answer : NameAnswer doc nodes pool pool' first seen from r
  pub pool_kept : length pool' ≡ length pool

-- a colon, and reading goes on behind it; or the document goes wrong where it is missing
abbrev pub ColonAnswer : Bytes → ℕ → Result ℕ Refusal → Type 0
ColonAnswer doc at (Ok next) = Token doc at 0x3A next
ColonAnswer doc at (Err r) = (r.cause ≡ JsonSyntax) × Neither doc at 0x3A 0x3A r.place

-- ---- lists and records

-- the parts before, latest first
abbrev pub Parts : Bracket → Type 0
Parts Square = Items
Parts Curly = Members

abbrev pub no_parts : (k : Bracket) → Parts k
no_parts Square = no_items
no_parts Curly = no_members

abbrev pub code_of : Bracket → ℕ
code_of Square = 5
code_of Curly = 6

abbrev pub opening_of : Bracket → ℕ
opening_of Square = 0x5B
opening_of Curly = 0x7B

-- b opens these brackets, or none
abbrev pub OpenedBy : ℕ → std.Option Bracket → Type 0
OpenedBy b (Some k) = b ≡ opening_of k
OpenedBy b None = (b ≡ 0x5B → ⊥) × (b ≡ 0x7B → ⊥)

abbrev pub closing_of : Bracket → ℕ
closing_of Square = 0x5D
closing_of Curly = 0x7D

-- behind the opening bracket
abbrev pub start_of : Bracket → Open → Gap
start_of Square o = Gap.first_item o
start_of Curly o = Gap.first_name o

-- behind a comma
abbrev pub next_of : (k : Bracket) → Parts k → Open → Gap
next_of Square vs o = Gap.value (in_list vs o)
next_of Curly ms o = Gap.next_name ms o

-- behind a part
abbrev pub behind_of : (k : Bracket) → Parts k → Open → Gap
behind_of Square vs o = Gap.after_item vs o
behind_of Curly ms o = Gap.after_member ms o

abbrev pub Before : (k : Bracket) → List ℕ → Parts k → List ℕ → Type 0
Before Square p vs rs = ItemsBefore p vs rs
Before Curly p ms rs = MembersBefore p ms rs

-- of members, the bits of their names are set
abbrev pub Marked : (k : Bracket) → ℕ → Parts k → Type 0
Marked Square seen vs = Unit {0}
Marked Curly seen ms = Covers seen ms

abbrev pub count_of : (k : Bracket) → Parts k → ℕ
count_of Square vs = size_items vs
count_of Curly ms = size_members ms

-- the length of elements as plain JSON, with a comma to each
unfoldable pub items_length : Items → ℕ
items_length no_items = 0
items_length (item v vs) = suc (length (plain v)) + items_length vs

-- the same of members, each with a colon
unfoldable pub members_length : Members → ℕ
members_length no_members = 0
members_length (member n v ms) = length (plain_text n) + suc (suc (length (plain v))) + members_length ms

abbrev pub length_of : (k : Bracket) → Parts k → ℕ
length_of Square vs = items_length vs
length_of Curly ms = members_length ms

abbrev pub whole_of : (k : Bracket) → Parts k → Value
whole_of Square vs = Value.list (items_onto vs no_items)
whole_of Curly ms = Value.rec (members_onto ms no_members)

-- how far reading has come in a list or record that was opened at c; behind a comma there is more to spare
pub record PartMoves (spare : ℕ) (doc : Bytes) (values : ℕ) (c from : Cursor) (written : ℕ) : Type 0 where
  pub ahead : c.at ≤ from.at
  pub within : from.at ≤ length doc
  pub limit : from.begun ≤ values
  pub grows : c.top ≤ from.top
  pub room : 8 * from.top + c.at + 8 * c.begun + 7 + spare ≤ from.at + 8 * from.begun + 8 * c.top
  pub short : written + c.at + 20 * c.begun + 18 + spare ≤ from.at + 20 * from.begun

-- what has been read of a list or record that was opened at c, where reading stands in this gap
pub record OpenParts
    (k : Bracket) (seen : ℕ) (here : Parts k → Open → Gap) (spare left values : ℕ) (doc : Bytes) (nodes pool nodes' pool' : List ℕ)
    (c from : Cursor) (written : ℕ)
    : Type 0 where
  pub parts : Parts k
  pub run
      : (l : Limits) (o : Open) → OpenLimited l o values (suc left) → (kept : Bytes)
      → scan l (suc c.begun) kept (gap (start_of k o)) (drop c.at doc)
      ≡ scan l from.begun kept (gap (here parts o)) (drop from.at doc)
  pub rows : List ℕ
  pub held : Before k (take from.top pool') parts rows
  pub marked : Marked k seen parts
  pub table : take (3 * from.begun) nodes' ≡ take (3 * suc c.begun) nodes ++ rows
  pub counted : from.begun ≡ suc c.begun + count_of k parts
  pub wrote : written ≡ suc (length_of k parts)
  pub front : take c.top pool' ≡ take c.top pool
  pub moves : PartMoves spare doc values c from written
  pub nodes_kept : length nodes' ≡ length nodes
  pub pool_kept : length pool' ≡ length pool

-- another part, or the answer
abbrev pub TurnAnswer
    : (k : Bracket) (seen left values : ℕ) (doc : Bytes) (nodes pool nodes' pool' : List ℕ) (name : ℕ) (c : Cursor)
    → ControlFlow ℕ Part → Type 0
TurnAnswer k seen left values doc nodes pool nodes' pool' name c (Continue part) =
    OpenParts k seen (next_of k) 1 left values doc nodes pool nodes' pool' c part.from part.written
TurnAnswer k seen left values doc nodes pool nodes' pool' name c (Break r) =
    Reads (start_of k) (suc c.begun) (suc left) values doc nodes pool nodes' pool' name c (answer_of r)

pub record Turns
    (k : Bracket) (seen left values : ℕ) (doc : Bytes) (nodes pool nodes' pool' : List ℕ) (name : ℕ) (c : Cursor) (r : ControlFlow ℕ Part)
    : Type 0 where
  pub answer : TurnAnswer k seen left values doc nodes pool nodes' pool' name c r

-- the row of a list or record at value `begun` is put
pub record Closes (nodes nodes' : List ℕ) (begun : ℕ) (k : Bracket) (name : ℕ) (to : Cursor) (written r : ℕ) : Type 0 where
  pub row
      : nodes'
      ≡ take (3 * begun) nodes ++ head_of (code_of k) 0 written ∷ 3 * (to.begun - begun) ∷ name ∷ drop (3 * begun + 3) nodes
  pub answer : answer_of r ≡ Ok to

-- behind a part
pub record BehindReady (doc : Bytes) (nodes : List ℕ) (c to : Cursor) (written : ℕ) : Type 0 where
  pub within : to.at ≤ length doc
  pub brief : length doc ≤ 65536
  pub small : to.top < 65536
  pub rows : 3 * to.begun ≤ length nodes
  pub more : suc c.begun < to.begun
  pub few : to.begun ≤ 32768
  pub short : written ≤ 2 ^ 40

-- the next part lies behind
abbrev pub Ahead : Cursor → ControlFlow ℕ Part → Type 0
Ahead to (Continue part) = to.at < part.from.at
Ahead to (Break r) = Unit {0}

-- reading goes on behind a part
pub record Goes_on
    (doc : Bytes) (nodes nodes' : List ℕ) (c : Cursor) (k : Bracket) (name : ℕ) (to : Cursor) (written : ℕ)
    (r : ControlFlow ℕ Part) : Type 0 where
  pub answer
      : (seen left values : ℕ) (nodes₀ pool₀ pool : List ℕ)
      → OpenParts k seen (behind_of k) 0 left values doc nodes₀ pool₀ nodes pool c to written
      → Turns k seen left values doc nodes₀ pool₀ nodes' pool name c r
  pub ahead : Ahead to r
