-- The faults of a bare pattern are those of a template.
use Rattle.std.proofs.Common.{◌≡◌, ℕ, ◌+◌, ◌∙◌, Bool, true, false, not, nat_lt, if◌then◌else◌, map, List, [], ◌∷◌, ◌++◌, Option, None, Some, refl, sym, ap, subst, is_some}
use Rattle.std.specs.Option.{option_map}
use Rattle.pattern_items.specs.declared.fault.ItemFault.{ItemFault}
use Rattle.pattern_items.specs.declared.fault.ItemFault.TheVariants as items
use Rattle.pattern_items.specs.declared.order.Before.{Before}
use Rattle.pattern_items.specs.declared.pattern.Fields.{Fields}
use Rattle.pattern_items.specs.declared.pattern.Item.{Item}
use Rattle.pattern_items.specs.declared.pattern.Pattern.{Pattern}
use Rattle.pattern_items.specs.Faults.{is_void, fault_if as item_fault_if, faults_of_item, faults_from, first_fault, first as first_item}
use Rattle.pattern_items.specs.Order.{nothing_before, before_next, may_stand}
use Rattle.flow_rules.specs.declared.fault.Cause.TheVariants as causes
use Rattle.flow_rules.specs.declared.fault.Fault.{Fault}
use Rattle.flow_rules.specs.Faults.{fault_if, first}
use Rattle.rule_binding.specs.Bare.{bare, template_fault}
use Rattle.rule_binding.specs.Templates.{order_faults, item_faults}

-- the faults of one item, in front of others
at_item : (place : ℕ) (stands : Bool) (last : Option Fields) (rest : List ItemFault) (more : List Fault) → map template_fault rest ≡ more
    → map template_fault ((item_fault_if (not stands) (items.Order place) ++ (item_fault_if (is_some last) (items.SpecMissing place) ++ [])) ++ rest)
    ≡ fault_if (not stands) causes.ItemOrder place ++ (fault_if (is_some last) causes.LastInTemplate place ++ more)
at_item place true None rest more e = e
at_item place true (Some last) rest more e = ap (λ l. record { cause = causes.LastInTemplate; at = place } ∷ l) e
at_item place false None rest more e = ap (λ l. record { cause = causes.ItemOrder; at = place } ∷ l) e
at_item place false (Some last) rest more e = ap (λ l. record { cause = causes.ItemOrder; at = place } ∷ record { cause = causes.LastInTemplate; at = place } ∷ l) e

at_bare : (place : ℕ) (before : Before) (item : Item) (last : Option Fields) (rest : List ItemFault) (more : List Fault) → map template_fault rest ≡ more
    → map template_fault (faults_of_item place before (bare (record item { last = last })) ++ rest)
    ≡ fault_if (not (may_stand before item.kind)) causes.ItemOrder place ++ (fault_if (is_some last) causes.LastInTemplate place ++ more)
at_bare place before item None rest more e = at_item place (may_stand before item.kind) None rest more e
at_bare place before item (Some last) rest more e = at_item place (may_stand before item.kind) (Some last) rest more e

pub bare_faults : (place : ℕ) (before : Before) (list : List Item) → map template_fault (faults_from place before (map bare list)) ≡ order_faults place before list
bare_faults place before [] = refl
bare_faults place before (item ∷ list) =
    let rest = faults_from (place + 1) (before_next before item.kind) (map bare list) in
    let more = order_faults (place + 1) (before_next before item.kind) list in
    elim (is_void item.kind) as (λ (v : Bool). map template_fault (if v then faults_from (place + 1) before (map bare list) else faults_of_item place before (bare item) ++ rest)
    ≡ (if v then order_faults (place + 1) before list else fault_if (not (may_stand before item.kind)) causes.ItemOrder place ++ (fault_if (is_some item.last) causes.LastInTemplate place ++ more))) [
      | true ↦ bare_faults (place + 1) before list
      | false ↦ at_bare place before item item.last rest more (bare_faults (place + 1) (before_next before item.kind) list)
    ]

first-map : (faults : List ItemFault) → first (map template_fault faults) ≡ option_map template_fault (first_item faults)
first-map [] = refl
first-map (fault ∷ faults) = refl

-- the first fault of the bare pattern is that of the template
pub first_bare : (pattern : Pattern) (list : List Item) → list ≡ map bare pattern.items.items
    → first (item_faults pattern) ≡ option_map template_fault (first_fault (record { items = record { items = list }; more = pattern.more }))
first_bare pattern list e =
    let given = pattern.items.items in
    subst (λ (l : List Item). first (item_faults pattern) ≡ option_map template_fault (first_fault (record { items = record { items = l }; more = pattern.more }))) (sym e)
    (elim (nat_lt 0 pattern.more) as (λ (b : Bool). first (fault_if b causes.TooManyItems 0 ++ order_faults 0 nothing_before given)
    ≡ option_map template_fault (first_item (item_fault_if b items.TooMany ++ faults_from 0 nothing_before (map bare given)))) [
      | true ↦ refl
      | false ↦ ap first (sym (bare_faults 0 nothing_before given)) ∙ first-map (faults_from 0 nothing_before (map bare given))
    ])
