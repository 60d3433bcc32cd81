-- What is kept at first: nothing is held.
use Rattle.std.proofs.Common.{◌≡◌, ℕ, flat_map, List, [], refl, sym, subst}
use Rattle.std.proofs.lemmas.List.Elements.{All-nil}
use Rattle.indirect_counters.specs.Entries.{Entries}
use Rattle.template_tables.specs.TemplatesView.{TemplatesView, none_yet}
use Rattle.port_state.specs.Kept.{AreKeptFor, IsHeldIn}
use Rattle.port_state.specs.Queue.{FlowQueue}

pub kept-none : (ids : ℕ) (templates : TemplatesView) (entries : Entries) (queues : List FlowQueue) → entries ≡ [] → templates ≡ none_yet → queues ≡ []
    → AreKeptFor ids templates entries (flat_map (λ (queue : FlowQueue). queue.held) queues)
kept-none ids templates entries queues no_entry no_template no_queue =
    let none : AreKeptFor ids none_yet [] [] = record { tables = λ id. refl; each = All-nil (IsHeldIn none_yet []); used = λ id. refl; number = refl } in
    subst (λ (t : TemplatesView). AreKeptFor ids t entries (flat_map (λ (queue : FlowQueue). queue.held) queues)) (sym no_template)
    (subst (λ (es : Entries). AreKeptFor ids none_yet es (flat_map (λ (queue : FlowQueue). queue.held) queues)) (sym no_entry)
    (subst (λ (qs : List FlowQueue). AreKeptFor ids none_yet [] (flat_map (λ (queue : FlowQueue). queue.held) qs)) (sym no_queue) none))
