-- The order in which tables are looked at: by groups, and in each group by priorities.
use Rattle.std.specs.Prelude.{◌≡◌, ℕ, ◌+◌, ◌*◌, ◌^◌, ◌<◌, ◌≤◌, length, map, List, [], Some, slice_get}
use Rattle.std.specs.List.{All, AllWithin, Contains}
use Rattle.std.specs.List.Sorted.{IsNonDecreasingBy}
use Rattle.rule_index.specs.declared.table.Table.{Table}
use Rattle.rule_index.specs.declared.turn.Turn.{Turn}

-- what contracts see of tables: the tables, each by its number, and the order in which they are looked at
pub record TablesView : Type 0 where
  pub list : List Table
  pub turns : List Turn

abbrev pub no_tables : TablesView
no_tables = record { list = []; turns = [] }

-- a group and a priority as one number
abbrev pub order_of : ℕ → ℕ → ℕ
order_of group priority = group * 2 ^ 32 + priority

abbrev pub order_in : Turn → ℕ
order_in turn = turn.order

abbrev pub number_in : Turn → ℕ
number_in turn = turn.number

-- a turn is that of a table, whose priority is a number of 32 bits
pub record IsTurnOf (tables : List Table) (turn : Turn) : Type 0 where
  pub table : Table
  pub at : slice_get tables turn.number ≡ Some table
  pub is : turn.order ≡ order_of table.group table.priority
  pub low : table.priority < 2 ^ 32

-- each table has a turn, and the turns rise
pub record AreInTurn (view : TablesView) : Type 0 where
  pub rising : IsNonDecreasingBy order_in view.turns
  pub each : All (IsTurnOf view.list) view.turns
  pub all : (number : ℕ) → number < length view.list → Contains (map number_in view.turns) number

-- the first turns have lesser orders than this one, and the others haven\'t
pub record IsCut (turns : List Turn) (order place : ℕ) : Type 0 where
  pub inside : place ≤ length turns
  pub before : AllWithin (λ (turn : Turn). turn.order < order) turns 0 place
  pub behind : AllWithin (λ (turn : Turn). order ≤ turn.order) turns place (length turns)
