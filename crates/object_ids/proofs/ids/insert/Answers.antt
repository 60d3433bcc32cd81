use Rattle.std.proofs.Common.{◌∙◌, nat_eq}
use Rattle.indexmap.proofs.CallerLemmas.{insert_entry-new}
use Rattle.object_ids.proofs.ids.insert.Goals as goal

pub returns-clause-added : goal.returns-clause-added
returns-clause-added g c =
    c.in_ok-insert.ensures.entries ∙ insert_entry-new nat_eq c.args.objects.now c.args.id c.args.value c.requires
