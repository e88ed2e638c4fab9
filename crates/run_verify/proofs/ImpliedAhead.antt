-- The entry of a reply is among the lines of the log right ahead.
use Rattle.std.proofs.Common.{◌≡◌, inl, inr, ◌<◌, ◌^◌, ℕ, suc, List, [], ◌∷◌, ◌++◌, ◌∙◌, map, slice_get, codes, Some, append_assoc, refl, sym, ap}
use Rattle.group_types.specs.Dimensions.{callers}
use Rattle.memc_table.specs.declared.reply.Reply.{Reply}
use Rattle.group_calls.specs.Turns.{CallName, name_of}
use Rattle.group_calls.specs.declared.entry.Entry.{Entry}
use Rattle.scenario_text.specs.Texts.{entry_text, name_text, reply_words}
use Rattle.transcript_text.specs.Forms.{FitsReply}
use Rattle.transcript_text.proofs.Entries.{FitsEntry, entry-tells}
use Rattle.run_verify.specs.Passing.{LogsAhead, entry_front}
use Rattle.run_verify.proofs.ImpliedCourse.{NoEntry}

-- all entries are within their limits
abbrev pub AllFit : List Entry → Type 0
AllFit [] = Unit {0}
AllFit (e ∷ es) = FitsEntry e × AllFit es

-- an entry of a name with this reply stands in a list
pub record IsAmong (es : List Entry) (name : CallName) (reply : Reply) : Type 0 where
  pub i : ℕ
  pub entry : Entry
  pub there : slice_get es i ≡ Some entry
  pub name_is : name_of entry ≡ name
  pub reply_is : entry.reply ≡ reply

among-more : (e : Entry) (es : List Entry) (name : CallName) (reply : Reply) → IsAmong es name reply → IsAmong (e ∷ es) name reply
among-more e es name reply among = record { i = suc among.i; entry = among.entry; there = among.there; name_is = among.name_is; reply_is = among.reply_is }

none-ahead : (rest : List (List ℕ)) (front reply : List ℕ) → NoEntry rest → ¬ (LogsAhead front reply rest)
none-ahead [] front reply plain ahead = ahead
none-ahead (line ∷ rest) front reply plain ahead = cc (sym plain ∙ ahead.0)

pub ahead_is : (es : List Entry) (rest : List (List ℕ)) (name : CallName) (reply : Reply) → AllFit es
    → name.caller < callers → name.call < 2 ^ 64 → FitsReply reply → NoEntry rest
    → LogsAhead (entry_front name) (reply_words reply) (map entry_text es ++ rest) → IsAmong es name reply
ahead_is [] rest name reply fit fc fn fr plain ahead = absurd (none-ahead rest (entry_front name) (reply_words reply) plain ahead)
ahead_is (e ∷ es) rest name reply fit fc fn fr plain (begins, found) = elim found [
  | inl here ↦
      let line : entry_text e ≡ name_text name.caller name.call 0 ++ (here.0 ++ codes " " ++ reply_words reply) =
      here.1 ∙ ap (λ (t : List ℕ). name_text name.caller name.call 0 ++ t) (sym (append_assoc here.0 (codes " ") (reply_words reply))) in
      let all = entry-tells e name.caller name.call here.0 reply fit.0 fc fn fr line in
      record {
        i = 0;
        entry = e;
        there = refl;
        name_is = (let c = all.0 in let n = all.1 in let eq : record { caller = e.caller; call = e.call }
            ≡ record { caller = name.caller; call = name.call } = cc (c, n) in eq);
        reply_is = all.2;
      }
  | inr later ↦ among-more e es name reply (ahead_is es rest name reply fit.1 fc fn fr plain later.1)
]
