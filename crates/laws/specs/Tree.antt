-- Syntax trees of JSON texts, numbers of any size and exponents included; what a tree means as a value, and when it keeps
-- the paper's limits. Assumes nothing.
use Rattle.std.specs.Prelude.{◌≤◌, ◌≡◌, Bool, true, false}
use Rattle.definitions.specs.declared.Limits.{Limits}
use Rattle.definitions.specs.Bytes.{Bytes}
use Rattle.definitions.specs.Number.{Numeral, beyond, number_of}
use Rattle.definitions.specs.Value.{Value, Items, no_items, item, Members, no_members, member, size, nesting}
use Rattle.laws.specs.Distinct.{distinct}

mutual
  pub data Tree : Type 0 where
    null : Tree
    bool : Bool → Tree
    -- a number as written
    number : Numeral → Tree
    -- a string, decoded
    text : Bytes → Tree
    list : Trees → Tree
    rec : Named → Tree

  -- the values of an array, in order
  pub data Trees : Type 0 where
    no_trees : Trees
    tree : Tree → Trees → Trees

  -- the members of an object, in order
  pub data Named : Type 0 where
    no_named : Named
    named : Bytes → Tree → Named → Named

-- the value that a tree means
unfoldable mutual
  pub meaning : Tree → Value
  meaning Tree.null = Value.null
  meaning (Tree.bool b) = Value.bool b
  meaning (Tree.number d) = Value.number (number_of d)
  meaning (Tree.text t) = Value.text t
  meaning (Tree.list ts) = Value.list (meaning_trees ts)
  meaning (Tree.rec ns) = Value.rec (meaning_named ns)

  pub meaning_trees : Trees → Items
  meaning_trees no_trees = no_items
  meaning_trees (tree t ts) = item (meaning t) (meaning_trees ts)

  pub meaning_named : Named → Members
  meaning_named no_named = no_members
  meaning_named (named n t ns) = member n (meaning t) (meaning_named ns)

-- every number of the tree is within coefficient and scale and has no exponent
mutual
  pub data NumbersFit : Tree → Type 0 where
    null_fits : NumbersFit Tree.null
    bool_fits : {b : Bool} → NumbersFit (Tree.bool b)
    number_fits : {d : Numeral} → beyond d ≡ false → NumbersFit (Tree.number d)
    text_fits : {t : Bytes} → NumbersFit (Tree.text t)
    list_fits : {ts : Trees} → TreesFit ts → NumbersFit (Tree.list ts)
    rec_fits : {ns : Named} → NamedFit ns → NumbersFit (Tree.rec ns)

  pub data TreesFit : Trees → Type 0 where
    no_trees_fit : TreesFit no_trees
    tree_fits : {t : Tree} {ts : Trees} → NumbersFit t → TreesFit ts → TreesFit (tree t ts)

  pub data NamedFit : Named → Type 0 where
    no_named_fit : NamedFit no_named
    named_fits : {n : Bytes} {t : Tree} {ns : Named} → NumbersFit t → NamedFit ns → NamedFit (named n t ns)

-- a tree keeps the limits: coefficient, scale and exponent; names once; so many values; so deep
pub record Fits (l : Limits) (t : Tree) : Type 0 where
  pub numbers : NumbersFit t
  pub names : distinct (meaning t) ≡ true
  pub values : size (meaning t) ≤ l.values
  pub depth : nesting (meaning t) ≤ l.nesting
