-- What lists of entries tell, one behind the other.
use Rattle.std.proofs.Common.{◌≡◌, ℕ, List, ◌++◌}
use Rattle.std.proofs.lemmas.List.Elements.{filter-append, filter_map-append}
use Rattle.flow_calls.specs.declared.entry.Entry.{Entry}
use Rattle.flow_calls.specs.Entries.{is_by, entries_by, call_by, calls_by, parcel_in, parcels_of, number_by, numbers_by, passer_in, passers_of}

pub calls_by-append : (who : ℕ) (xs ys : List Entry) → calls_by who (xs ++ ys) ≡ calls_by who xs ++ calls_by who ys
calls_by-append who xs ys = filter_map-append (call_by who) xs ys

pub parcels_of-append : (xs ys : List Entry) → parcels_of (xs ++ ys) ≡ parcels_of xs ++ parcels_of ys
parcels_of-append xs ys = filter_map-append parcel_in xs ys

pub numbers_by-append : (who : ℕ) (xs ys : List Entry) → numbers_by who (xs ++ ys) ≡ numbers_by who xs ++ numbers_by who ys
numbers_by-append who xs ys = filter_map-append (number_by who) xs ys

pub passers_of-append : (xs ys : List Entry) → passers_of (xs ++ ys) ≡ passers_of xs ++ passers_of ys
passers_of-append xs ys = filter_map-append passer_in xs ys

pub entries_by-append : (who : ℕ) (xs ys : List Entry) → entries_by who (xs ++ ys) ≡ entries_by who xs ++ entries_by who ys
entries_by-append who xs ys = filter-append (is_by who) xs ys
