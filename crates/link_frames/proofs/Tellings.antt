-- What is told is read exactly where it is spelled.
use Rattle.std.proofs.Common.{◌≡◌, ℕ, Bool, List, [], ◌∷◌, ◌++◌, length, Option, Some, refl, sym, ap, subst, ◌∙◌, append_assoc, arith}
use Rattle.std.specs.List.{AllByRecursion}
use Rattle.std.specs.Int.{w32, w64}
use Rattle.std.proofs.lemmas.List.{append-nil}
use Rattle.memc_table.specs.declared.reply.Reply.{Reply}
use Rattle.memc_table.specs.declared.reply.Reply.TheVariants as says
use Rattle.group_calls.specs.declared.event.Answer.{Answer}
use Rattle.group_calls.specs.declared.event.Answer.TheVariants as answers
use Rattle.group_calls.specs.declared.event.Cause.{Cause}
use Rattle.group_calls.specs.declared.event.Cause.TheVariants.{Pending, Block}
use Rattle.group_wire.specs.State as wire
use Rattle.wire_codec.specs.Fits.{IsOne, IsFour, IsEight}
use Rattle.wire_codec.specs.Frame.{one, four, eight, long}
use Rattle.wire_codec.specs.Reading.{Read, given, one_at, decode_number, made_at, of_two, of_three, of_four, tagged_at}
use Rattle.wire_codec.proofs.Codes.{IsBytes, Took, Codes, TakesAs, codes_one, codes_four, codes_eight, takes_given}
use Rattle.wire_codec.proofs.Codes.{takes_made, takes_two, takes_three, takes_four, tagged_takes, again_two}
use Rattle.wire_codec.proofs.Codes.{again_three, again_four}
use Rattle.link_frames.specs.Limits.{FitsToldAnswer, FitsToldCause, FitsToldReply, FitsTold, FitsValue}
use Rattle.link_frames.specs.Spelling.{answer_before, answer_value, cause, flag_byte, reply_before, reply_value, told_before}
use Rattle.link_frames.specs.Texts.{value_at, value_reply, value_reply_at, reply_table, reply_at, pending_by}
use Rattle.link_frames.specs.Texts.{cause_table, cause_at, answer_table, told_answer_at, telling_of, flag_at}
use Rattle.link_frames.specs.Texts.{telling_at}
use Rattle.link_frames.proofs.Fields.{again_as, codes_flag, codes_value}

-- ---- replies

abbrev reply : Reply → List ℕ
reply r = reply_before r ++ reply_value r

same_shown : (flags cas : ℕ) (value : List ℕ) → reply (value_reply flags cas value) ≡ 0 ∷ (four flags ++ eight cas ++ long value)
same_shown flags cas value = ap (λ (t : List ℕ). 0 ∷ t) (append_assoc (four flags ++ eight cas) (four (length value)) value)

takes_shown : TakesAs reply FitsToldReply (0, value_reply_at)
unfolding value_reply_at
takes_shown = takes_three reply FitsToldReply (0 ∷ []) value_reply codes_four codes_eight codes_value same_shown (λ a b c p q r. (p, q, r))

number_nil : (tag n : ℕ) → (tag ∷ eight n) ++ [] ≡ tag ∷ eight n
number_nil tag n = append-nil (tag ∷ eight n)

all_replies : AllByRecursion (TakesAs reply FitsToldReply) reply_table
all_replies = (
  takes_shown,
  (
    takes_given reply FitsToldReply 1 says.Miss refl tt,
    (
      takes_given reply FitsToldReply 2 says.Stored refl tt,
      (
        takes_given reply FitsToldReply 3 says.NotStored refl tt,
        (
          takes_given reply FitsToldReply 4 says.Exists refl tt,
          (
            takes_given reply FitsToldReply 5 says.NotFound refl tt,
            (
              takes_given reply FitsToldReply 6 says.Deleted refl tt,
              (
                takes_given reply FitsToldReply 7 says.Touched refl tt,
                (
                  takes_made reply FitsToldReply (8 ∷ []) (λ n. says.Number n) codes_eight (number_nil 8) (λ n fits. fits),
                  (
                    takes_given reply FitsToldReply 9 says.NotNumber refl tt,
                    (takes_given reply FitsToldReply 10 says.TooLarge refl tt, tt),
                  ),
                ),
              ),
            ),
          ),
        ),
      ),
    ),
  ),
)

number_reads : {X : Type 0} (make : ℕ → X) (n : ℕ) (rest : List ℕ) → IsEight n → made_at make (decode_number w64) (eight n ++ rest) ≡ Some (make n, rest)
number_reads make n rest fits = rw (codes_eight.again n rest fits) refl

reply_again : (r : Reply) (rest : List ℕ) → FitsToldReply r → reply_at (reply r ++ rest) ≡ Some (r, rest)
unfolding reply_at value_reply_at
reply_again (says.Value item) rest fits =
    again_as reply reply_table 0 (of_three value_reply (decode_number w32) (decode_number w64) value_at) (says.Value item)
    (four item.flags ++ eight item.cas ++ long item.value) rest (same_shown item.flags item.cas item.value) refl
    (again_three value_reply codes_four codes_eight codes_value item.flags item.cas item.value rest fits.0 fits.1 fits.2)
reply_again (says.Number n) rest fits = again_as reply reply_table 8 (made_at (λ n. says.Number n) (decode_number w64))
    (says.Number n) (eight n) rest (number_nil 8 n) refl (number_reads (λ n. says.Number n) n rest fits)
reply_again says.Miss rest fits = refl
reply_again says.Stored rest fits = refl
reply_again says.NotStored rest fits = refl
reply_again says.Exists rest fits = refl
reply_again says.NotFound rest fits = refl
reply_again says.Deleted rest fits = refl
reply_again says.Touched rest fits = refl
reply_again says.NotNumber rest fits = refl
reply_again says.TooLarge rest fits = refl

codes_reply : Codes reply FitsToldReply reply_at
unfolding reply_at
codes_reply = record { takes = tagged_takes reply FitsToldReply reply_table all_replies; again = reply_again }

-- ---- causes

cause_again : (c : Cause) (rest : List ℕ) → FitsToldCause c → cause_at (cause c ++ rest) ≡ Some (c, rest)
unfolding cause_at
cause_again (Pending d number) rest fits =
    again_as cause cause_table 0 (of_two pending_by one_at (decode_number w64)) (Pending d number) (one d.0 ++ eight number)
    rest refl refl (again_two pending_by codes_one codes_eight d.0 number rest fits.0 fits.1)
cause_again (Block block) rest fits = rw (codes_four.again block rest fits) refl

codes_cause : Codes cause FitsToldCause cause_at
unfolding cause_at
codes_cause = record {
  takes = tagged_takes cause FitsToldCause cause_table (
    takes_two cause FitsToldCause (0 ∷ []) pending_by codes_one codes_eight (λ a b. refl) (λ a b p q. (p, q)),
    (takes_made cause FitsToldCause (1 ∷ []) (λ b. Block b) codes_four (λ a. refl) (λ a fits. fits), tt),
  );
  again = cause_again;
}

-- ---- answers

abbrev answer : Answer → List ℕ
answer a = answer_before a ++ answer_value a

cause_nil : (c : Cause) → (4 ∷ cause c) ++ [] ≡ 4 ∷ cause c
cause_nil c = append-nil (4 ∷ cause c)

all_answers : AllByRecursion (TakesAs answer FitsToldAnswer) answer_table
all_answers = (
  takes_made answer FitsToldAnswer (0 ∷ []) (λ r. answers.Reply r) codes_reply (λ r. refl) (λ r fits. fits),
  (
    takes_made answer FitsToldAnswer (1 ∷ []) (λ n. answers.Ticket n) codes_eight (number_nil 1) (λ n fits. fits),
    (
      takes_given answer FitsToldAnswer 2 answers.NotYet refl tt,
      (
        takes_given answer FitsToldAnswer 3 answers.NoSpace refl tt,
        (
          takes_made answer FitsToldAnswer (4 ∷ []) (λ c. answers.Retry c) codes_cause cause_nil (λ c fits. fits),
          (
            takes_given answer FitsToldAnswer 5 answers.Moved refl tt,
            (
              takes_given answer FitsToldAnswer 6 answers.Lost refl tt,
              (
                takes_given answer FitsToldAnswer 7 answers.Down refl tt,
                (
                  takes_given answer FitsToldAnswer 8 answers.Idle refl tt,
                  (
                    takes_given answer FitsToldAnswer 9 answers.Stranger refl tt,
                    (
                      takes_given answer FitsToldAnswer 10 answers.Done refl tt,
                      (
                        takes_given answer FitsToldAnswer 11 answers.AlreadyDead refl tt,
                        (
                          takes_given answer FitsToldAnswer 12 answers.Gone refl tt,
                          (
                            takes_made answer FitsToldAnswer (13 ∷ []) (λ n. answers.Stale n) codes_eight (number_nil 13) (λ n fits. fits),
                            tt,
                          ),
                        ),
                      ),
                    ),
                  ),
                ),
              ),
            ),
          ),
        ),
      ),
    ),
  ),
)

answer_again : (a : Answer) (rest : List ℕ) → FitsToldAnswer a → told_answer_at (answer a ++ rest) ≡ Some (a, rest)
unfolding told_answer_at
answer_again (answers.Reply r) rest fits = again_as answer answer_table 0 (made_at (λ r. answers.Reply r) reply_at)
    (answers.Reply r) (reply r) rest refl refl (rw (reply_again r rest fits) refl)
answer_again (answers.Ticket n) rest fits =
    again_as answer answer_table 1 (made_at (λ n. answers.Ticket n) (decode_number w64)) (answers.Ticket n) (eight n) rest
    (number_nil 1 n) refl (number_reads (λ n. answers.Ticket n) n rest fits)
answer_again (answers.Retry c) rest fits = again_as answer answer_table 4 (made_at (λ c. answers.Retry c) cause_at)
    (answers.Retry c) (cause c) rest (cause_nil c) refl (rw (cause_again c rest fits) refl)
answer_again (answers.Stale n) rest fits =
    again_as answer answer_table 13 (made_at (λ n. answers.Stale n) (decode_number w64)) (answers.Stale n) (eight n) rest
    (number_nil 13 n) refl (number_reads (λ n. answers.Stale n) n rest fits)
answer_again answers.NotYet rest fits = refl
answer_again answers.NoSpace rest fits = refl
answer_again answers.Moved rest fits = refl
answer_again answers.Lost rest fits = refl
answer_again answers.Down rest fits = refl
answer_again answers.Idle rest fits = refl
answer_again answers.Stranger rest fits = refl
answer_again answers.Done rest fits = refl
answer_again answers.AlreadyDead rest fits = refl
answer_again answers.Gone rest fits = refl

codes_answer : Codes answer FitsToldAnswer told_answer_at
unfolding told_answer_at
codes_answer = record { takes = tagged_takes answer FitsToldAnswer answer_table all_answers; again = answer_again }

-- what is told, behind its kind
abbrev pub told : wire.Told → List ℕ
told t = told_before t ++ answer_value t.answer

same_told : (caller call : ℕ) (traced : Bool) (a : Answer) → told (telling_of caller call traced a) ≡ one caller ++ eight call ++ flag_byte traced ++ answer a
same_told caller call traced a = append_assoc (one caller ++ eight call ++ flag_byte traced) (answer_before a) (answer_value a)

told_again : (t : wire.Told) (rest : List ℕ) → FitsTold t → telling_at (told t ++ rest) ≡ Some (t, rest)
unfolding telling_at
told_again t rest fits =
    ap (λ (text : List ℕ). of_four telling_of one_at (decode_number w64) flag_at told_answer_at (text ++ rest)) (same_told t.caller t.call t.traced t.answer)
    ∙ again_four telling_of codes_one codes_eight codes_flag codes_answer t.caller t.call t.traced t.answer rest fits.0 fits.1 tt fits.2

pub codes_told : Codes told FitsTold telling_at
unfolding telling_at
codes_told = record {
  takes = takes_four told FitsTold [] telling_of codes_one codes_eight codes_flag codes_answer same_told (λ a b c d p q r s. (p, q, s));
  again = told_again;
}
