use Rattle.std.proofs.Common.{◌≡◌, ℕ, List, Some, ap, ◌∙◌}
use Rattle.std.proofs.lemmas.Result.{on_ok_weaker}
use Rattle.std.specs.Io.KnownBytes.{append_known}
use Rattle.packet_headers.specs.declared.items.LayerAt.{LayerAt}
use Rattle.packet_headers.specs.Layers.{layers}
use Rattle.flow_actions.specs.declared.verdict.Verdict.{Verdict}
use Rattle.flow_rules.specs.Walk.{Flows, verdict_of}
use Rattle.history_text.specs.Transmit.{delivered}
use Rattle.flow_port.proofs.Standing.{Stands-grows}
use Rattle.testpmd_shell.specs.declared.feed.Arrived.{Arrived}
use Rattle.testpmd_shell.specs.Feed.{frame_in}
use Rattle.testpmd_shell.specs.Sending.{kept_in, flows_now, sent_by}
use Rattle.testpmd_shell.proofs.lead.Lead.pass.Goals as goal

-- what goes out by the copy goes out by what packets see
sent-now : (flows now : Flows) (verdict : Verdict) (key : List LayerAt) (arrived : Arrived) (bytes : List ℕ) → flows ≡ now → key ≡ layers bytes → verdict ≡ verdict_of flows key
    → delivered verdict.fate flows key (Some (frame_in arrived bytes)) ≡ sent_by now arrived bytes
unfolding sent_by
sent-now flows now verdict key arrived bytes flows-is key-is is =
    let frame = frame_in arrived bytes in
    ap (λ (v : Verdict). delivered v.fate flows key (Some frame)) is
    ∙ ap (λ k. delivered (verdict_of flows k).fate flows k (Some frame)) key-is
    ∙ ap (λ f. delivered (verdict_of f (layers bytes)).fate f (layers bytes) (Some frame)) flows-is

pub returns-clause-kept : goal.returns-clause-kept
returns-clause-kept c =
    let old = c.args.self.now in
    on_ok_weaker c.packet.result
    (λ entered. c.in_ok-keep.ensures
    ∙ ap (append_known (kept_in old)) (sent-now c.catch_up.new.replica.flows (flows_now old.adapter) c.classify-verdict.result c.parse.result c.args.arrived c.args.frame.now
    c.in_ok-catch_up.ensures.now c.parse.ensures.layers c.classify-verdict.ensures))
    c.packet.ensures.entered

pub returns-clause-stands : goal.returns-clause-stands
returns-clause-stands c =
    on_ok_weaker c.packet.result
    (λ entered. Stands-grows c.args.self.now.adapter c.packet.new.self _ c.catch_up.new.replica entered c.in_ok-catch_up.ensures.stands)
    c.packet.ensures.entered
