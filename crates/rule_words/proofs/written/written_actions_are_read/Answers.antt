use Rattle.rule_words.specs.Actions.{no_actions}
use Rattle.rule_words.proofs.WrittenActions.{action-read, action-only, actions-read, actions-only}
use Rattle.rule_words.proofs.written.written_actions_are_read.Goals as goal

pub returns-clause-read : goal.returns-clause-read
returns-clause-read c = λ actions list rest is. actions-read actions no_actions list rest is

pub returns-clause-only : goal.returns-clause-only
returns-clause-only c = λ words list rest is. actions-only no_actions list words rest is

pub returns-clause-read_alone : goal.returns-clause-read_alone
returns-clause-read_alone c = λ written action rest is. action-read written action rest is

pub returns-clause-only_alone : goal.returns-clause-only_alone
returns-clause-only_alone c = λ words action rest is. action-only action words rest is
