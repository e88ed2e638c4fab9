-- What a line of the log is judged by.
use Rattle.std.proofs.Common.{◌≡◌, ◌≢◌, ◌<◌, ◌^◌, ℕ, Bool, true, false, List, [], ◌++◌, Option, Some, None, sym, ap, ◌∙◌, subst}
use Rattle.std.specs.Prelude.{option_and_then, slice_get, Result, Ok, Err, IfOk}
use Rattle.group_types.specs.Dimensions.{callers}
use Rattle.group_types.specs.Lists.{at}
use Rattle.memc_table.specs.Asked.{Asked}
use Rattle.memc_table.specs.Contents.{reply_of, table_after}
use Rattle.memc_table.specs.declared.reply.Reply.{Reply}
use Rattle.group_calls.specs.declared.entry.Entry.{Entry}
use Rattle.scenario_text.specs.Texts.{entry_text}
use Rattle.transcript_text.specs.Texts.{FitsName, text_of_name}
use Rattle.transcript_text.specs.declared.name.Name.{Name}
use Rattle.transcript_text.proofs.Entries.{entry-line, entry-names}
use Rattle.run_verify.specs.Judging.{HasAppliedOp, HasReadEntry, entry_on, open_if, open_in, open_op, with_table}
use Rattle.run_verify.specs.Passing.{Account, IsFrontOf, LineTellsEntry}
use Rattle.run_verify.specs.declared.call.Call.{Call}

abbrev given : Asked → Option Asked → Asked
given x (Some y) = y
given x None = x

abbrev OneCall : Asked → Bool → Option Reply → Asked → Type 0
OneCall x taken reply op = let a : Call = record { op = x; taken = taken; reply = reply } in let b : Call =
    record { op = op; taken = true; reply = None } in a ≡ b

-- an open call is one that may take effect and isn't logged
open-by : (taken : Bool) (reply : Option Reply) (x op : Asked) → open_if taken reply x ≡ Some op → OneCall x taken reply op
open-by true None x op is = ap (λ (o : Option Asked). record { op = given x o; taken = true; reply = None }) is
open-by true (Some r) x op is = absurd (cc is)
open-by false r x op is = absurd (cc is)

open-is : (o : Option Call) (op : Asked) → option_and_then open_op o ≡ Some op → o ≡ Some (record { op = op; taken = true; reply = None })
open-is None op is = absurd (cc is)
open-is (Some call) op is = ap Some (open-by call.taken call.reply call.op op is)

-- a line without a name tells no entry
pub unnamed : (a : Account) (line : List ℕ)
    → ((name : Name) (rest : List ℕ) → FitsName name → text_of_name name ++ rest ≢ line) → (e : Entry)
    → ¬ (LineTellsEntry a line e)
unnamed a line none e is = none (record { caller = e.caller; call = e.call }) _ is.named (sym (entry-line e) ∙ sym is.text)

-- the entry that a line with this name tells
module _ (a : Account) (line : List ℕ) (name : Name) (fits : FitsName name) (front : IsFrontOf (text_of_name name) line) where
  one-name : (e : Entry) → LineTellsEntry a line e → (e.caller ≡ name.caller) × (e.call ≡ name.call)
  one-name e is = entry-names e name.caller name.call front.0
      (record { caller = is.named.0; call = is.named.1; reply = is.fits }) fits.0 fits.1 (sym is.text ∙ front.1)

  one-op : (e : Entry) → LineTellsEntry a line e → open_in a.calls name.caller name.call ≡ Some e.op
  one-op e is = let same = one-name e is in
      ap (λ (n : ℕ). open_in a.calls n name.call) (sym same.0) ∙ ap (λ (n : ℕ). open_in a.calls e.caller n) (sym same.1) ∙ ap (option_and_then open_op) is.call

  pub closed : open_in a.calls name.caller name.call ≡ None → (e : Entry) → ¬ (LineTellsEntry a line e)
  closed none e is = absurd (cc (none, one-op e is))

  one-entry : (op : Asked) → open_in a.calls name.caller name.call ≡ Some op → (e : Entry) → LineTellsEntry a line e → e ≡ entry_on a name op
  one-entry op opened e is =
      let same = one-name e is in
      let ops : e.op ≡ op = cc (one-op e is, opened) in
      let reply : e.reply ≡ reply_of a.table op = is.reply ∙ ap (reply_of a.table) ops in
      λ i. record { caller = same.0 i; call = same.1 i; op = ops i; reply = reply i }

  pub entered : (op : Asked) (now : Account) (o : Option Entry) → open_in a.calls name.caller name.call ≡ Some op
      → HasAppliedOp a name op line now o → HasReadEntry a line now o
  entered op now None opened other = λ e is. other (is.text ∙ ap entry_text (one-entry op opened e is))
  entered op now (Some e) opened (same, reply, text, table) = (
    record {
      text = text;
      call = open-is (slice_get (at [] a.calls e.caller) e.call) e.op
          (ap (λ (x : Entry). open_in a.calls x.caller x.call) same ∙ opened
          ∙ ap (λ (x : Entry). Some x.op) (sym same));
      reply = ap (λ (x : Entry). x.reply) same ∙ ap (λ (x : Entry). reply_of a.table x.op) (sym same);
      fits = reply;
      named = subst (λ (x : Entry). (x.caller < callers) × (x.call < 2 ^ 64)) (sym same) fits;
    },
    table ∙ ap (λ (x : Entry). with_table a (table_after a.table x.op)) (sym same),
  )

  pub entered_ok : {E : Type 0} (op : Asked) (now : Account) (r : Result (Option Entry) E)
      → open_in a.calls name.caller name.call ≡ Some op → IfOk r (HasAppliedOp a name op line now)
      → IfOk r (HasReadEntry a line now)
  entered_ok op now (Ok o) opened is = entered op now o opened is
  entered_ok op now (Err e) opened is = tt
