-- One number for all the numbers that layers have by some lines. Where it is exact no two lists of numbers have one.
use Rattle.std.specs.Prelude.{ℕ, ◌+◌, ◌*◌, ◌%◌, ◌^◌, Bool, nat_eq, if◌then◌else◌, slice_index, length, fold, map, List, [], ◌∷◌, Option, None, Some}
use Rattle.std.specs.List.{slice_get, range_with_len}
use Rattle.std.specs.Option.{option_map}
use Rattle.packet_headers.specs.declared.items.LayerAt.{LayerAt}
use Rattle.pattern_items.specs.declared.pattern.Fields.{Fields}
use Rattle.packet_headers.specs.Key.{is_of}
use Rattle.pattern_items.specs.Shape.{masked_by}
use Rattle.pattern_items.specs.Walk.{passes, walk_by}
use Rattle.rule_index.specs.declared.line.ShapeLine.{ShapeLine}
use Rattle.rule_index.specs.declared.digest.DigestWay.{DigestWay}
use Rattle.rule_index.specs.Lines.{masks_in, numbers_by}

abbrev pub FACTOR : ℕ
FACTOR = 0x9E3779B97F4A7C15F39CC0605CEDC835

-- one more number, which is at most its mask: in exact digests as a digit of base mask + 1
unfoldable pub mix : Bool → ℕ → ℕ → ℕ → ℕ
mix exact digest mask number =
    if nat_eq mask 0 then digest
    else (if exact then ((digest * mask % 2 ^ 128 + digest) % 2 ^ 128 + number) % 2 ^ 128 else (digest * FACTOR % 2 ^ 128 + number) % 2 ^ 128)

-- the numbers of one item
abbrev pub mix_fields : Bool → Fields → Fields → ℕ → ℕ
mix_fields exact masks numbers digest =
    fold (λ (d : ℕ) (field : ℕ). mix exact d (slice_index masks.v field) (slice_index numbers.v field)) digest (range_with_len 0 6)

-- the numbers of all items
abbrev pub mix_all : Bool → List Fields → List Fields → ℕ → ℕ
mix_all exact [] numbers digest = digest
mix_all exact (m ∷ ms) [] digest = digest
mix_all exact (m ∷ ms) (n ∷ ns) digest = mix_all exact ms ns (mix_fields exact m n digest)

-- the digest of layers, where the kinds meet them
abbrev pub digest_by : Bool → List ShapeLine → List LayerAt → Option ℕ
digest_by exact lines ls = option_map (λ (ns : List Fields). mix_all exact (map masks_in lines) ns 0) (numbers_by lines ls)

-- the same by a walk, one layer at a time
abbrev pub way : ℕ → ℕ → DigestWay
way met digest = record { met = met; digest = digest }

abbrev pub meet : Bool → ShapeLine → DigestWay → LayerAt → Option DigestWay
meet exact line w l =
    if is_of line.kind l then Some (way (w.met + 1) (mix_fields exact line.masks (masked_by line.masks l) w.digest))
    else (if passes w.met l.layer.kind then Some w else None)

abbrev pub meet_any : Bool → Option ShapeLine → DigestWay → LayerAt → Option DigestWay
meet_any exact None w l = Some w
meet_any exact (Some line) w l = meet exact line w l

abbrev pub step : Bool → List ShapeLine → DigestWay → LayerAt → Option DigestWay
step exact lines w l = meet_any exact (slice_get lines w.met) w l

abbrev pub walk : Bool → List ShapeLine → Option DigestWay → List LayerAt → Option DigestWay
walk exact lines w ls = walk_by (step exact lines) w ls

-- the digest behind the last layer, where all lines have met theirs
abbrev pub ended : List ShapeLine → Option DigestWay → Option ℕ
ended lines None = None
ended lines (Some w) = if nat_eq w.met (length lines) then Some w.digest else None
