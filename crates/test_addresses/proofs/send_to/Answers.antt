use Rattle.std.proofs.Common.{◌∙◌, ◌++◌, take, drop, drop-drop, ap}
use Rattle.test_addresses.proofs.send_to.Goals as goal

pub returns : goal.returns
returns c =
    ap (λ behind. take 30 c.args.frame.now ++ (c.copy_from_slice.new.self ++ behind)) (drop-drop 4 30 c.args.frame.now)
    ∙ ap (λ bytes. take 30 c.args.frame.now ++ (bytes ++ drop 34 c.args.frame.now)) (c.copy_from_slice.ensures.after ∙ c.to_be_bytes.ensures)
