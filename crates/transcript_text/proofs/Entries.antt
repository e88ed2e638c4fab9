-- A line of the log names its call, and ends with its reply.
use Rattle.std.proofs.Common.{◌≡◌, ◌<◌, ◌^◌, ◌==◌, ℕ, zero, suc, Bool, true, false, List, [], ◌∷◌, ◌++◌, ◌∙◌}
use Rattle.std.proofs.Common.{append_assoc, codes, if◌then◌else◌, refl, sym, ap, arith}
use Rattle.std.proofs.lemmas.List.{append-nil}
use Rattle.std.specs.Fmt.{decimal}
use Rattle.group_types.specs.Dimensions.{callers}
use Rattle.memc_table.specs.declared.reply.Reply.{Reply}
use Rattle.group_calls.specs.declared.entry.Entry.{Entry}
use Rattle.scenario_text.specs.Texts.{act_text, entry_text, moment_text, name_text, reply_words}
use Rattle.transcript_text.specs.Forms.{FitsReply}
use Rattle.transcript_text.specs.Texts.{FitsName}
use Rattle.transcript_text.proofs.Ends.{tells_once}
use Rattle.transcript_text.proofs.Fronts.{assoc, first-same, name-line}

-- a name stands at the head of a line in one way
pub name_same : (c n d m : ℕ) (r s : List ℕ) → c < callers → n < 2 ^ 64 → d < callers → m < 2 ^ 64
    → name_text c n 0 ++ r ≡ name_text d m 0 ++ s → (c ≡ d) × (n ≡ m) × (r ≡ s)
name_same c n d m r s fc fn fd fm same =
    let all = sym (name-line (record { caller = c; call = n }) r) ∙ same ∙ name-line (record { caller = d; call = m }) s in
    let numbers : decimal c ++ 46 ∷ (decimal n ++ 32 ∷ r) ≡ decimal d ++ 46 ∷ (decimal m ++ 32 ∷ s) = cc all in
    let callers-same = first-same 46 d c (decimal m ++ 32 ∷ s) (decimal n ++ 32 ∷ r)
    (decimal d ++ 46 ∷ (decimal m ++ 32 ∷ s)) (omega arith) (omega (arith, fd)) (omega (arith, fc))
    (append_assoc (decimal d) (46 ∷ []) (decimal m ++ 32 ∷ s)) numbers in
    let calls = first-same 32 m n s r (decimal m ++ 32 ∷ s) (omega arith) fm fn (append_assoc (decimal m) (32 ∷ []) s) callers-same.1 in
    (callers-same.0, calls.0, calls.1)

-- what is between an entry's name and its reply
abbrev op_behind : ℕ → List ℕ → List ℕ
op_behind moment act = if moment == 0 then act else codes "@" ++ decimal moment ++ codes " " ++ act

-- the name of a call at a moment, and an op
name-behind : (c n moment : ℕ) (act : List ℕ) → name_text c n moment ++ act ≡ name_text c n 0 ++ op_behind moment act
name-behind c n moment act = by (moment == 0) refl
  where
    by : (b : Bool) → (moment == 0) ≡ b → name_text c n moment ++ act ≡ name_text c n 0 ++ op_behind moment act
    by true is = rw is refl
    by false is = rw is (
        let head : List ℕ = decimal c ++ 46 ∷ decimal n in
        ap (λ (t : List ℕ). 61 ∷ 32 ∷ t) (assoc head (32 ∷ 64 ∷ decimal moment) (32 ∷ []) act
        ∙ sym (ap (λ (t : List ℕ). t ++ 32 ∷ [] ++ 64 ∷ (decimal moment ++ 32 ∷ [] ++ act)) (append-nil head)
        ∙ append_assoc head (32 ∷ []) (64 ∷ (decimal moment ++ 32 ∷ [] ++ act))
        ∙ ap (λ (t : List ℕ). head ++ 32 ∷ 64 ∷ t) (append_assoc (decimal moment) (32 ∷ []) act))))

pub entry-line : (e : Entry) → entry_text e ≡ name_text e.caller e.call 0 ++ (op_behind e.op.moment (act_text e.op.act) ++ codes " " ++ reply_words e.reply)
entry-line e =
    ap (λ (t : List ℕ). t ++ codes " " ++ reply_words e.reply) (name-behind e.caller e.call e.op.moment (act_text e.op.act))
    ∙ ap (λ (t : List ℕ). t ++ reply_words e.reply) (append_assoc (name_text e.caller e.call 0) (op_behind e.op.moment (act_text e.op.act)) (codes " "))
    ∙ append_assoc (name_text e.caller e.call 0) (op_behind e.op.moment (act_text e.op.act) ++ codes " ") (reply_words e.reply)

-- an entry within its limits
pub record FitsEntry (e : Entry) : Type 0 where
  pub caller : e.caller < callers
  pub call : e.call < 2 ^ 64
  pub reply : FitsReply e.reply

-- the line of an entry names no other call
pub entry-names : (e : Entry) (c n : ℕ) (rest : List ℕ) → FitsEntry e → c < callers → n < 2 ^ 64
    → entry_text e ≡ name_text c n 0 ++ rest → (e.caller ≡ c) × (e.call ≡ n)
entry-names e c n rest fits fc fn same =
    let names = name_same e.caller e.call c n (op_behind e.op.moment (act_text e.op.act) ++ codes " "
    ++ reply_words e.reply) rest fits.caller fits.call fc fn (sym (entry-line e) ∙ same) in
    (names.0, names.1)

-- and it ends with no other reply
pub entry-tells : (e : Entry) (c n : ℕ) (op : List ℕ) (reply : Reply) → FitsEntry e → c < callers → n < 2 ^ 64 → FitsReply reply
    → entry_text e ≡ name_text c n 0 ++ (op ++ codes " " ++ reply_words reply) → (e.caller ≡ c) × (e.call ≡ n) × (e.reply ≡ reply)
entry-tells e c n op reply fits fc fn fr same =
    let act = op_behind e.op.moment (act_text e.op.act) in
    let names = name_same e.caller e.call c n (act ++ codes " " ++ reply_words e.reply)
    (op ++ codes " " ++ reply_words reply) fits.caller fits.call fc fn (sym (entry-line e) ∙ same) in
    let ends : act ++ 32 ∷ reply_words e.reply ≡ op ++ 32 ∷ reply_words reply =
    sym (append_assoc act (32 ∷ []) (reply_words e.reply)) ∙ names.2 ∙ append_assoc op (32 ∷ []) (reply_words reply) in
    (names.0, names.1, tells_once e.reply reply act op fits.reply fr ends)
