-- The forms of answers.
use Rattle.std.specs.Prelude.{IsTrue, ◌↔◌}
use Rattle.std.proofs.Common.{◌≡◌, ◌≢◌, ◌<◌, ◌^◌, ◌++◌, ◌∙◌, List, ℕ, Bool, true, false, codes, Option, Some, None, refl, sym, ap}
use Rattle.memc_table.specs.declared.reply.Reply.{Reply}
use Rattle.memc_table.specs.declared.reply.Reply.TheVariants as replied
use Rattle.group_calls.specs.declared.event.Answer.{Answer}
use Rattle.group_calls.specs.declared.event.Answer.TheVariants as answered
use Rattle.group_calls.specs.declared.event.Cause.TheVariants.{Pending, Block}
use Rattle.scenario_text.specs.Texts.{answer_text, reply_words}
use Rattle.transcript_text.specs.Forms.{FitsAnswer, form_of, is_bare, is_word}
use Rattle.transcript_text.specs.Parts.{HasForm, IsBareForm, IsForm, IsWordReply}
use Rattle.transcript_text.specs.Texts.{FitsNumber, IsReplyText}
use Rattle.transcript_text.specs.declared.form.Form.{Form}
use Rattle.transcript_text.specs.declared.form.Form.TheVariants as form
use Rattle.transcript_text.proofs.Tests.{TellsNumber, TellsPending}

pub bare : (answer : Answer) → FitsAnswer answer → (line : List ℕ) → answer_text answer ≡ line → HasForm line (form_of answer)
bare answer fits line same = (answer, fits, same, refl)

pub word_reply : (reply : Reply) → is_word reply ≡ true → (text : List ℕ) → reply_words reply ≡ text → IsTrue true ↔ IsWordReply text
word_reply reply is text same = (λ told. (reply, is, same), λ told. refl)

-- a line that is none of these texts is no such answer
pub no_bare : (line : List ℕ) → (line ≢ codes "not_yet") → (line ≢ codes "no_space") → (line ≢ codes "moved")
    → (line ≢ codes "lost") → (line ≢ codes "down") → (line ≢ codes "idle") → (line ≢ codes "stranger")
    → (line ≢ codes "done") → (line ≢ codes "already_dead") → (line ≢ codes "gone") → IsBareForm line None
no_bare line n0 n1 n2 n3 n4 n5 n6 n7 n8 n9 = by
  where
    by : (answer : Answer) → is_bare (form_of answer) ≡ true → answer_text answer ≢ line
    by answered.NotYet is same = n0 (sym same)
    by answered.NoSpace is same = n1 (sym same)
    by answered.Moved is same = n2 (sym same)
    by answered.Lost is same = n3 (sym same)
    by answered.Down is same = n4 (sym same)
    by answered.Idle is same = n5 (sym same)
    by answered.Stranger is same = n6 (sym same)
    by answered.Done is same = n7 (sym same)
    by answered.AlreadyDead is same = n8 (sym same)
    by answered.Gone is same = n9 (sym same)
    by (answered.Reply reply) is same = cc is
    by (answered.Ticket n) is same = cc is
    by (answered.Retry cause) is same = cc is
    by (answered.Stale call) is same = cc is

-- a text that is none of these is no such reply
pub no_word : (text : List ℕ) → (text ≢ codes "miss") → (text ≢ codes "stored") → (text ≢ codes "not_stored")
    → (text ≢ codes "exists") → (text ≢ codes "not_found") → (text ≢ codes "deleted") → (text ≢ codes "touched")
    → (text ≢ codes "not_number") → (text ≢ codes "too_large") → IsTrue false ↔ IsWordReply text
no_word text n0 n1 n2 n3 n4 n5 n6 n7 n8 = (λ told. absurd (cc told), λ (reply, is, same). absurd (by reply is same))
  where
    by : (reply : Reply) → is_word reply ≡ true → reply_words reply ≢ text
    by replied.Miss is same = n0 (sym same)
    by replied.Stored is same = n1 (sym same)
    by replied.NotStored is same = n2 (sym same)
    by replied.Exists is same = n3 (sym same)
    by replied.NotFound is same = n4 (sym same)
    by replied.Deleted is same = n5 (sym same)
    by replied.Touched is same = n6 (sym same)
    by replied.NotNumber is same = n7 (sym same)
    by replied.TooLarge is same = n8 (sym same)
    by (replied.Value item) is same = cc is
    by (replied.Number n) is same = cc is

-- a line that tells a reply
abbrev pub TellsReplied : List ℕ → Type 0
TellsReplied line = (text : List ℕ) × (codes "reply " ++ text ≡ line) × IsReplyText text

pub of-replied : (line : List ℕ) → TellsReplied line → HasForm line form.Reply
of-replied line (text, is, (reply, fits, same)) = (answered.Reply reply, fits, ap (λ (t : List ℕ). codes "reply " ++ t) same ∙ is, refl)

pub of-ticket : (line : List ℕ) → TellsNumber FitsNumber (codes "ticket ") line → HasForm line form.Ticket
of-ticket line (n, fits, same) = (answered.Ticket n, fits, same, refl)

pub of-stale : (line : List ℕ) → TellsNumber FitsNumber (codes "stale ") line → HasForm line form.Stale
of-stale line (n, fits, same) = (answered.Stale n, fits, same, refl)

pub of-pending : (line : List ℕ) → TellsPending line → HasForm line form.Retry
of-pending line (partition, number, fits, same) = (answered.Retry (Pending partition number), fits, same, refl)

pub of-blocked : (line : List ℕ) → TellsNumber (λ n. n < 2 ^ 32) (codes "retry block ") line → HasForm line form.Retry
of-blocked line (block, fits, same) = (answered.Retry (Block block), fits, same, refl)

-- an answer that is none of these is one that has neither a reply nor a number
pub last_form : (line : List ℕ) (o : Option Form) → ¬ (TellsReplied line)
    → ¬ (TellsNumber FitsNumber (codes "ticket ") line) → ¬ (TellsNumber FitsNumber (codes "stale ") line)
    → ¬ (TellsPending line) → ¬ (TellsNumber (λ n. n < 2 ^ 32) (codes "retry block ") line) → IsBareForm line o → IsForm line o
last_form line (Some f) replied ticket stale pending blocked has = has
last_form line None replied ticket stale pending blocked none = by
  where
    by : (answer : Answer) → FitsAnswer answer → answer_text answer ≢ line
    by (answered.Reply reply) fits same = replied (reply_words reply, same, (reply, fits, refl))
    by (answered.Ticket n) fits same = ticket (n, fits, same)
    by (answered.Stale n) fits same = stale (n, fits, same)
    by (answered.Retry (Pending partition number)) fits same = pending (partition, number, fits, same)
    by (answered.Retry (Block block)) fits same = blocked (block, fits, same)
    by answered.NotYet fits same = none answered.NotYet refl same
    by answered.NoSpace fits same = none answered.NoSpace refl same
    by answered.Moved fits same = none answered.Moved refl same
    by answered.Lost fits same = none answered.Lost refl same
    by answered.Down fits same = none answered.Down refl same
    by answered.Idle fits same = none answered.Idle refl same
    by answered.Stranger fits same = none answered.Stranger refl same
    by answered.Done fits same = none answered.Done refl same
    by answered.AlreadyDead fits same = none answered.AlreadyDead refl same
    by answered.Gone fits same = none answered.Gone refl same
