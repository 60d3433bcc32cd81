-- What the tests of one shape have in common: for each item its kind and the masks of its fields.
use Rattle.std.specs.Prelude.{map, List, [], ◌∷◌, Option}
use Rattle.packet_headers.specs.declared.items.ItemKind.{ItemKind}
use Rattle.packet_headers.specs.declared.items.LayerAt.{LayerAt}
use Rattle.pattern_items.specs.declared.pattern.Fields.{Fields}
use Rattle.pattern_items.specs.Shape.{met_by, option_masked_by}
use Rattle.rule_index.specs.declared.line.ShapeLine.{ShapeLine}

abbrev pub line_by : ItemKind → Fields → ShapeLine
line_by kind masks = record { kind = kind; masks = masks }

-- the lines of these kinds and masks
abbrev pub lines_by : List ItemKind → List Fields → List ShapeLine
lines_by [] masks = []
lines_by (k ∷ ks) [] = []
lines_by (k ∷ ks) (m ∷ ms) = line_by k m ∷ lines_by ks ms

abbrev pub kind_in : ShapeLine → ItemKind
kind_in line = line.kind

abbrev pub masks_in : ShapeLine → Fields
masks_in line = line.masks

-- the numbers that layers have by the lines: at the layers that the kinds meet, by the masks, where they do
abbrev pub numbers_by : List ShapeLine → List LayerAt → Option (List Fields)
numbers_by lines ls = option_masked_by (map masks_in lines) (met_by (map kind_in lines) ls)
