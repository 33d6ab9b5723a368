-- Words of no form are told so, and each command's reply is that of its words.
use Rattle.std.proofs.Common.{sym, ap, ◌∙◌, Some}
use Rattle.cmpca_tool.proofs.RunLemmas.{asked_nothing, asked_verify, asked_init, asked_take, asked_show, asked_enlist, asked_dismiss, asked_release, asked_deny, none_taken, taken_by}
use Rattle.cmpca_tool.specs.Words.{input_most, key_file_most}
use Rattle.cmpca_tool.proofs.tool.work.Goals as goal

pub returns-in_default-clause-told : goal.returns-in_default-clause-told
returns-in_default-clause-told g c = asked_nothing _ _ _ _ _ _ _ _ _ (sym c.read_words.ensures ∙ c.in_default.is) c.says.ensures.ends c.says.ensures.says

pub returns-in-Verify-clause-told : goal.returns-in-Verify-clause-told
returns-in-Verify-clause-told g c = asked_verify _ _ _ _ _ _ _ _ _ _ (sym c.read_words.ensures ∙ c.in-Some.is ∙ ap Some c.in-Verify.is) (rw c.as_slice.ensures.value at c.run_verify.ensures.told)

pub returns-in-Init-clause-told : goal.returns-in-Init-clause-told
returns-in-Init-clause-told g c = asked_init _ _ _ _ _ _ _ _ _ c.now.result c.now.ensures.reads (sym c.read_words.ensures ∙ c.in-Some.is ∙ ap Some c.in-Init.is) c.run_init.ensures.told

pub returns-in-Take-clause-told : goal.returns-in-Take-clause-told
returns-in-Take-clause-told g c = asked_take _ _ _ _ _ _ _ _ _ (sym c.read_words.ensures ∙ c.in-Some.is ∙ ap Some c.in-Take.is) c.run_take.ensures.told

pub returns-in-Show-clause-told : goal.returns-in-Show-clause-told
returns-in-Show-clause-told g c = asked_show _ _ _ _ _ _ _ _ _ (sym c.read_words.ensures ∙ c.in-Some.is ∙ ap Some c.in-Show.is) c.show.ensures.reply

pub returns-in-Enlist-clause-told : goal.returns-in-Enlist-clause-told
returns-in-Enlist-clause-told g c = asked_enlist _ _ _ _ _ _ _ _ _ c.now-in-Enlist.result c.now-in-Enlist.ensures.reads (sym c.read_words.ensures ∙ c.in-Some.is ∙ ap Some c.in-Enlist.is) c.run_enlist.ensures.told

pub returns-in-Dismiss-clause-told : goal.returns-in-Dismiss-clause-told
returns-in-Dismiss-clause-told g c = asked_dismiss _ _ _ _ _ _ _ _ _ c.now-in-Dismiss.result _ _ c.now-in-Dismiss.ensures.reads (sym c.read_words.ensures ∙ c.in-Some.is ∙ ap Some c.in-Dismiss.is) c.run_dismiss.ensures.reply

pub returns-in-Release-clause-told : goal.returns-in-Release-clause-told
returns-in-Release-clause-told g c = asked_release _ _ _ _ _ _ _ _ _ c.now-in-Release.result _ c.now-in-Release.ensures.reads (sym c.read_words.ensures ∙ c.in-Some.is ∙ ap Some c.in-Release.is) c.run_order.ensures.reply

pub returns-in-Deny-clause-told : goal.returns-in-Deny-clause-told
returns-in-Deny-clause-told g c = asked_deny _ _ _ _ _ _ _ _ _ c.now-in-Deny.result _ c.now-in-Deny.ensures.reads (sym c.read_words.ensures ∙ c.in-Some.is ∙ ap Some c.in-Deny.is) c.run_order-in-Deny.ensures.reply

pub returns-in-Verify-clause-taken : goal.returns-in-Verify-clause-taken
returns-in-Verify-clause-taken g c = taken_by _ _ input_most _ _ (sym c.read_words.ensures ∙ c.in-Some.is ∙ ap Some c.in-Verify.is) c.run_verify.ensures.taken

pub returns-in-Init-clause-taken : goal.returns-in-Init-clause-taken
returns-in-Init-clause-taken g c = taken_by _ _ input_most _ _ (sym c.read_words.ensures ∙ c.in-Some.is ∙ ap Some c.in-Init.is) c.run_init.ensures.taken

pub returns-in-Take-clause-taken : goal.returns-in-Take-clause-taken
returns-in-Take-clause-taken g c = taken_by _ _ input_most _ _ (sym c.read_words.ensures ∙ c.in-Some.is ∙ ap Some c.in-Take.is) c.run_take.ensures.taken

pub returns-in-Enlist-clause-taken : goal.returns-in-Enlist-clause-taken
returns-in-Enlist-clause-taken g c = taken_by _ _ input_most _ _ (sym c.read_words.ensures ∙ c.in-Some.is ∙ ap Some c.in-Enlist.is) c.run_enlist.ensures.taken

pub returns-in-Show-clause-taken : goal.returns-in-Show-clause-taken
returns-in-Show-clause-taken g c = none_taken _ _

pub returns-in-Dismiss-clause-taken : goal.returns-in-Dismiss-clause-taken
returns-in-Dismiss-clause-taken g c = none_taken _ _

pub returns-in-Release-clause-taken : goal.returns-in-Release-clause-taken
returns-in-Release-clause-taken g c = none_taken _ _

pub returns-in-Deny-clause-taken : goal.returns-in-Deny-clause-taken
returns-in-Deny-clause-taken g c = none_taken _ _

pub returns-in_default-clause-taken : goal.returns-in_default-clause-taken
returns-in_default-clause-taken g c = none_taken _ _

pub returns-in-Init-clause-key_taken : goal.returns-in-Init-clause-key_taken
returns-in-Init-clause-key_taken g c = taken_by _ _ key_file_most _ _ (sym c.read_words.ensures ∙ c.in-Some.is ∙ ap Some c.in-Init.is) c.run_init.ensures.key_taken

pub returns-in-Take-clause-key_taken : goal.returns-in-Take-clause-key_taken
returns-in-Take-clause-key_taken g c = taken_by _ _ key_file_most _ _ (sym c.read_words.ensures ∙ c.in-Some.is ∙ ap Some c.in-Take.is) c.run_take.ensures.key_taken

pub returns-in-Verify-clause-key_taken : goal.returns-in-Verify-clause-key_taken
returns-in-Verify-clause-key_taken g c = none_taken _ _

pub returns-in-Enlist-clause-key_taken : goal.returns-in-Enlist-clause-key_taken
returns-in-Enlist-clause-key_taken g c = none_taken _ _

pub returns-in-Show-clause-key_taken : goal.returns-in-Show-clause-key_taken
returns-in-Show-clause-key_taken g c = none_taken _ _

pub returns-in-Dismiss-clause-key_taken : goal.returns-in-Dismiss-clause-key_taken
returns-in-Dismiss-clause-key_taken g c = none_taken _ _

pub returns-in-Release-clause-key_taken : goal.returns-in-Release-clause-key_taken
returns-in-Release-clause-key_taken g c = none_taken _ _

pub returns-in-Deny-clause-key_taken : goal.returns-in-Deny-clause-key_taken
returns-in-Deny-clause-key_taken g c = none_taken _ _

pub returns-in_default-clause-key_taken : goal.returns-in_default-clause-key_taken
returns-in_default-clause-key_taken g c = none_taken _ _
