-- The tables of an index, and which table is a rule's.
use Rattle.std.specs.Prelude.{◌≡◌, ℕ, ◌↔◌, Bool, true, IsTrue, length, List, ◌++◌, Option, None, Some, IfSome, slice_get}
use Rattle.std.specs.Option.{option_map}
use Rattle.packet_headers.specs.declared.items.LayerAt.{LayerAt}
use Rattle.pattern_items.specs.declared.shape.Shape.{Shape}
use Rattle.pattern_items.specs.declared.test.Test.{Test}
use Rattle.pattern_items.specs.Matches.{accepts}
use Rattle.pattern_items.specs.Shape.{shape_of, numbers_in}
use Rattle.flow_rules.specs.RuleView.{RuleView}
use Rattle.rule_index.specs.declared.line.ShapeLine.{ShapeLine}
use Rattle.rule_index.specs.declared.table.Home.{Home}
use Rattle.rule_index.specs.declared.table.Table.{Table}
use Rattle.rule_index.specs.declared.wanted.Wanted.{Wanted}
use Rattle.rule_index.specs.Lines.{lines_by}
use Rattle.rule_index.specs.Digest.{digest_by, mix_all}
use Rattle.rule_index.specs.Exact.{AreExact, AreWithin}

-- the digest that layers have by lines; without lines each has the same one
abbrev pub digest_with : Bool → Option (List ShapeLine) → List LayerAt → Option ℕ
digest_with exact None ls = Some 0
digest_with exact (Some lines) ls = digest_by exact lines ls

abbrev pub lines_in : Table → Option (List ShapeLine)
lines_in table = option_map (λ lines. lines.items) table.lines

-- the digest that layers have in a table
abbrev pub digest_in : Table → List LayerAt → Option ℕ
digest_in table ls = digest_with table.exact (lines_in table) ls

-- a shape is a test\'s, and the test asks of no field what its mask can\'t give
pub record IsShapeOf (test : Test) (shape : Shape) : Type 0 where
  pub is : shape ≡ shape_of test
  pub accepts : (ls : List LayerAt) → IsTrue (accepts test ls) ↔ (numbers_in shape ls ≡ Some shape.values.items)
  pub within : AreWithin shape.masks.items shape.values.items

abbrev pub IsExact : Option Shape → Type 0
IsExact None = ⊥
IsExact (Some shape) = AreExact shape.masks.items

-- the digest of a shape\'s own values
abbrev pub own_digest : Bool → Option Shape → ℕ
own_digest exact None = 0
own_digest exact (Some shape) = mix_all exact shape.masks.items shape.values.items 0

-- what the table of a rule must be
pub record IsWantedBy (wanted : Wanted) (rule : RuleView) : Type 0 where
  pub group : wanted.group ≡ rule.group
  pub priority : wanted.priority ≡ rule.priority
  pub shape : IfSome wanted.shape (IsShapeOf rule.test)
  pub exact : wanted.exact ≡ true → IsExact wanted.shape
  pub digest : wanted.digest ≡ own_digest wanted.exact wanted.shape

-- a shape has as many kinds and values as masks
pub record HasEven (shape : Shape) : Type 0 where
  pub kinds : length shape.kinds.items ≡ length shape.masks.items
  pub values : length shape.masks.items ≡ length shape.values.items

abbrev pub IsEven : Option Shape → Type 0
IsEven None = Unit {0}
IsEven (Some shape) = HasEven shape

abbrev pub lines_of : Option Shape → Option (List ShapeLine)
lines_of None = None
lines_of (Some shape) = Some (lines_by shape.kinds.items shape.masks.items)

pub record IsOf (table : Table) (wanted : Wanted) : Type 0 where
  pub group : table.group ≡ wanted.group
  pub priority : table.priority ≡ wanted.priority
  pub exact : table.exact ≡ wanted.exact
  pub lines : lines_in table ≡ lines_of wanted.shape

-- the table of this number is what is wanted
pub record IsAt (tables : List Table) (wanted : Wanted) (number : ℕ) : Type 0 where
  pub table : Table
  pub at : slice_get tables number ≡ Some table
  pub is : IsOf table wanted

-- A rule is at home in a table, under this digest: layers that it accepts have it there, and where digests are exact no
-- others have.
pub record IsHome (tables : List Table) (rule : RuleView) (home : Home) : Type 0 where
  pub table : Table
  pub at : slice_get tables home.table ≡ Some table
  pub group : table.group ≡ rule.group
  pub priority : table.priority ≡ rule.priority
  pub accepted : (ls : List LayerAt) → accepts rule.test ls ≡ true → digest_in table ls ≡ Some home.digest
  pub exact : table.exact ≡ true → (ls : List LayerAt) → digest_in table ls ≡ Some home.digest → accepts rule.test ls ≡ true

-- there are more tables, and the first are those that there were
pub record Grows (old new : List Table) : Type 0 where
  pub more : List Table
  pub is : new ≡ old ++ more
