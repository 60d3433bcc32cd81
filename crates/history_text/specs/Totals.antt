-- The totals of the frames that passed, with those of the Rx queues that the port has.
use Rattle.std.specs.Prelude.{ℕ, List, [], ◌∷◌, ◌++◌, map, take, codes, decimal}
use Rattle.io_edges.specs.Commas.{with_commas}
use Rattle.flow_rules.specs.declared.limits.Limits.{Limits}
use Rattle.flow_calls.specs.declared.reply.Totals.{Totals}
use Rattle.history_text.specs.Forms.{filled}

abbrev pub totals_text : Limits → Totals → List ℕ
totals_text limits totals = filled (codes "received 0 dropped 0 queues ") (totals.received ∷ totals.dropped ∷ [])
    ++ with_commas (map decimal (take limits.rxq totals.queues))
