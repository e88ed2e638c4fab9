-- The text of a frame is no longer than a frame may be.
use Rattle.std.proofs.Common.{◌≡◌, ◌≤◌, ◌<◌, ℕ, ◌+◌, ◌*◌, ◌^◌, ℤ, Bool, true, false, List, [], ◌∷◌, ◌++◌, length, refl}
use Rattle.std.proofs.Common.{sym, ap, subst, ◌∙◌, append_assoc, arith}
use Rattle.std.proofs.lemmas.List.{append-nil, length-append}
use Rattle.group_types.specs.Dimensions.{Dimensions}
use Rattle.group_types.specs.Key.{IsKey}
use Rattle.group_types.specs.Shape.{most_space}
use Rattle.memc_table.specs.Act.{act_value}
use Rattle.memc_table.specs.declared.act.Act.{Act}
use Rattle.memc_table.specs.declared.act.Act.TheVariants as asks
use Rattle.memc_table.specs.declared.reply.Reply.{Reply}
use Rattle.memc_table.specs.declared.reply.Reply.TheVariants as says
use Rattle.group_calls.specs.declared.event.Answer.{Answer}
use Rattle.group_calls.specs.declared.event.Answer.TheVariants as answers
use Rattle.group_calls.specs.declared.event.Cause.{Cause}
use Rattle.group_calls.specs.declared.event.Cause.TheVariants.{Pending, Block}
use Rattle.group_wire.specs.State as wire
use Rattle.crc32c.specs.Register.{checksum}
use Rattle.link_frames.specs.Links.{summed, link_frame}
use Rattle.wire_codec.specs.Fits.{most}
use Rattle.wire_codec.specs.Frame.{one, two, four, eight, short, process}
use Rattle.wire_codec.specs.Parts as message
use Rattle.wire_codec.proofs.Puts.{text_parts, length-process}
use Rattle.link_frames.specs.declared.frame.Frame.{Frame}
use Rattle.link_frames.specs.declared.frame.Frame.TheVariants.{Message, Said, Ping, Pong, Request, Told}
use Rattle.link_frames.specs.declared.frame.Frame.TheVariants as carries
use Rattle.link_frames.specs.declared.hello.Hello.{Hello}
use Rattle.link_frames.specs.Limits.{FitsAct, FitsToldAnswer, FitsLink, FitsToldReply, FitsRequest, FitsValue}
use Rattle.link_frames.specs.Spelling.{act_before, answer_before, answer_value, cause, dimensions, flag_byte, greeting}
use Rattle.link_frames.specs.Spelling.{hello, link_before, link_behind, link_text, link_value, magic_word, reply_before}
use Rattle.link_frames.specs.Spelling.{reply_value, request_before, request_value, signed, told_before}

-- what stands before a value is short
item_few : (tag : ℕ) (key : List ℕ) (flags : ℕ) (expiry : ℤ) (more : List ℕ) → IsKey key
    → length (tag ∷ short key ++ four flags ++ signed expiry ++ more) ≤ 264 + length more
item_few tag key flags expiry more is =
    let few = is.short in
    omega (
      arith,
      few,
      length-append (short key ++ four flags ++ signed expiry) more,
      length-append (short key ++ four flags) (signed expiry),
      length-append (short key) (four flags),
    )

key_few : (tag : ℕ) (key more : List ℕ) → IsKey key → length (tag ∷ short key ++ more) ≤ 252 + length more
key_few tag key more is = let few = is.short in omega (arith, few, length-append (short key) more)

act_few : (a : Act) → FitsAct a → (length (act_before a) ≤ 276) × (length (act_value a) ≤ most_space)
act_few (asks.Get key) fits = (let few = fits.short in omega (arith, few), omega arith)
act_few (asks.Set key flags expiry value) fits = (let few = item_few 1 key flags expiry (four (length value)) fits.0 in omega (arith, few), fits.3)
act_few (asks.Add key flags expiry value) fits = (let few = item_few 2 key flags expiry (four (length value)) fits.0 in omega (arith, few), fits.3)
act_few (asks.Replace key flags expiry value) fits = (let few = item_few 3 key flags expiry (four (length value)) fits.0 in omega (arith, few), fits.3)
act_few (asks.Cas key flags expiry cas value) fits = (
  let few = item_few 4 key flags expiry (eight cas ++ four (length value)) fits.0 in
      let same = ap length (append_assoc (4 ∷ short key ++ four flags ++ signed expiry) (eight cas) (four (length value))) in
      omega (arith, few, same, length-append (eight cas) (four (length value))),
  fits.4,
)
act_few (asks.Delete key) fits = (let few = fits.short in omega (arith, few), omega arith)
act_few (asks.Touch key expiry) fits = (let few = key_few 6 key (signed expiry) fits.0 in omega (arith, few), omega arith)
act_few (asks.Append key value) fits = (let few = key_few 7 key (four (length value)) fits.0 in omega (arith, few), fits.1)
act_few (asks.Prepend key value) fits = (let few = key_few 8 key (four (length value)) fits.0 in omega (arith, few), fits.1)
act_few (asks.Incr key by) fits = (let few = key_few 9 key (eight by) fits.0 in omega (arith, few), omega arith)
act_few (asks.Decr key by) fits = (let few = key_few 10 key (eight by) fits.0 in omega (arith, few), omega arith)

request_few : (r : wire.Request) → FitsRequest r → length (request_before r ++ request_value r) ≤ most
request_few (wire.AskFor caller call op) fits =
    let few = act_few op.act fits.2.1 in
    let before = few.0 in
    let value = few.1 in
    omega (
      arith,
      before,
      value,
      length-append (request_before (wire.AskFor caller call op)) (act_value op.act),
      length-append (one caller ++ eight call ++ eight op.moment) (act_before op.act),
    )
request_few (wire.TraceOf caller call d) fits = omega arith

reply_few : (r : Reply) → FitsToldReply r → (length (reply_before r) ≤ 20) × (length (reply_value r) ≤ most_space)
reply_few (says.Value item) fits = (omega arith, fits.2)
reply_few says.Miss fits = (omega arith, omega arith)
reply_few says.Stored fits = (omega arith, omega arith)
reply_few says.NotStored fits = (omega arith, omega arith)
reply_few says.Exists fits = (omega arith, omega arith)
reply_few says.NotFound fits = (omega arith, omega arith)
reply_few says.Deleted fits = (omega arith, omega arith)
reply_few says.Touched fits = (omega arith, omega arith)
reply_few (says.Number n) fits = (omega arith, omega arith)
reply_few says.NotNumber fits = (omega arith, omega arith)
reply_few says.TooLarge fits = (omega arith, omega arith)

cause_few : (c : Cause) → length (cause c) ≤ 10
cause_few (Pending d number) = omega arith
cause_few (Block block) = omega arith

answer_few : (a : Answer) → FitsToldAnswer a → (length (answer_before a) ≤ 21) × (length (answer_value a) ≤ most_space)
answer_few (answers.Reply r) fits = let few = reply_few r fits in (let before = few.0 in omega (arith, before), few.1)
answer_few (answers.Ticket n) fits = (omega arith, omega arith)
answer_few answers.NotYet fits = (omega arith, omega arith)
answer_few answers.NoSpace fits = (omega arith, omega arith)
answer_few (answers.Retry c) fits = (let few = cause_few c in omega (arith, few), omega arith)
answer_few answers.Moved fits = (omega arith, omega arith)
answer_few answers.Lost fits = (omega arith, omega arith)
answer_few answers.Down fits = (omega arith, omega arith)
answer_few answers.Idle fits = (omega arith, omega arith)
answer_few answers.Stranger fits = (omega arith, omega arith)
answer_few answers.Done fits = (omega arith, omega arith)
answer_few answers.AlreadyDead fits = (omega arith, omega arith)
answer_few answers.Gone fits = (omega arith, omega arith)
answer_few (answers.Stale n) fits = (omega arith, omega arith)

flag_one : (b : Bool) → length (flag_byte b) ≡ 1
flag_one true = refl
flag_one false = refl

greeting_few : (h : Hello) → length (greeting h) ≤ 40
greeting_few h =
    omega (
      arith,
      length-append (two h.version ++ (eight h.group.high ++ eight h.group.low) ++ dimensions h.shape ++ (process h.from ++ process h.to)) (eight h.drawn),
      length-append (two h.version ++ (eight h.group.high ++ eight h.group.low) ++ dimensions h.shape) (process h.from ++ process h.to),
      length-append (process h.from) (process h.to),
      length-process h.from,
      length-process h.to,
    )

pub text_few : (f : Frame) → FitsLink f → (1 ≤ length (link_text f)) × (length (link_text f) ≤ most)
text_few (Message m) fits = (omega arith, fits.0.short)
text_few (carries.Hello h) fits =
    let few = greeting_few h in
    (omega (arith, length-append (11 ∷ hello h) []), omega (arith, few, length-append (11 ∷ hello h) [], length-append (eight magic_word) (greeting h)))
text_few (Said names) fits = (omega arith, omega arith)
text_few (Ping n) fits = (omega arith, omega arith)
text_few (Pong n) fits = (omega arith, omega arith)
text_few (Request (wire.AskFor caller call op)) fits = (
  omega (arith, length-append (request_before (wire.AskFor caller call op)) (act_value op.act)),
  request_few (wire.AskFor caller call op) fits,
)
text_few (Request (wire.TraceOf caller call d)) fits = (omega arith, request_few (wire.TraceOf caller call d) fits)
text_few (Told t) fits =
    let few = answer_few t.answer fits.2 in
    let before = few.0 in
    let value = few.1 in
    let sum = length-append (17 ∷ told_before t) (answer_value t.answer) in (
      omega (arith, sum),
      omega (
        arith,
        sum,
        before,
        value,
        length-append (one t.caller ++ eight t.call ++ flag_byte t.traced)
            (answer_before t.answer),
        length-append (one t.caller ++ eight t.call) (flag_byte t.traced),
        flag_one t.traced,
      ),
    )

-- a text is what stands before its value, the value, and what stands behind it
pub link_parts : (f : Frame) → (link_before f ++ link_value f) ++ link_behind f ≡ link_text f
link_parts (Message m) = text_parts m
link_parts (carries.Hello h) = append-nil (link_before (carries.Hello h) ++ [])
link_parts (Said names) = append-nil (link_before (Said names) ++ [])
link_parts (Ping n) = append-nil (link_before (Ping n) ++ [])
link_parts (Pong n) = append-nil (link_before (Pong n) ++ [])
link_parts (Request r) = append-nil (request_before r ++ request_value r)
link_parts (Told t) = append-nil (link_before (Told t) ++ answer_value t.answer)

pub text_sum : (f : Frame) → length (link_before f) + length (link_value f) + length (link_behind f) ≡ length (link_text f)
text_sum f = omega (
  arith,
  ap length (link_parts f),
  length-append (link_before f ++ link_value f) (link_behind f),
  length-append (link_before f) (link_value f),
)

joined : (front before value behind text sum : List ℕ) → (before ++ value) ++ behind ≡ text → (front ++ before)
    ++ (value ++ (behind ++ sum)) ≡ (front ++ text) ++ sum
joined front before value behind text sum e =
    append_assoc front before (value ++ (behind ++ sum))
    ∙ ap (λ (t : List ℕ). front ++ t) (sym (append_assoc before value (behind ++ sum))
    ∙ sym (append_assoc (before ++ value) behind sum) ∙ ap (λ (t : List ℕ). t ++ sum) e)
    ∙ sym (append_assoc front text sum)

summed_over : (front before value behind text : List ℕ) → (before ++ value) ++ behind ≡ text → ((front ++ before) ++ value) ++ behind ≡ front ++ text
summed_over front before value behind text e =
    ap (λ (t : List ℕ). t ++ behind) (append_assoc front before value) ∙ append_assoc front (before ++ value) behind ∙ ap (λ (t : List ℕ). front ++ t) e

-- the four pieces of a frame
pub frame_written : (f : Frame) (l sum : ℕ) (front before value behind out new : List ℕ) → front ≡ four l
    → l ≡ length (link_text f) → before ≡ link_before f → value ≡ link_value f → behind ≡ link_behind f
    → sum ≡ checksum (((front ++ before) ++ value) ++ behind) → new ≡ out ++ ((front ++ before) ++ (value ++ (behind ++ four sum))) → new ≡ out ++ link_frame f
frame_written f l sum front before value behind out new is_front is_l is_before is_value is_behind is_sum is_new =
    let is_text : (before ++ value) ++ behind ≡ link_text f = ap (λ (t : List ℕ). (t ++ value) ++ behind) is_before
    ∙ ap (λ (t : List ℕ). (link_before f ++ t) ++ behind) is_value
    ∙ ap (λ (t : List ℕ). (link_before f ++ link_value f) ++ t) is_behind ∙ link_parts f in
    let count : front ≡ four (length (link_text f)) = is_front ∙ ap four is_l in
    is_new
    ∙ ap (λ (t : List ℕ). out ++ t) (
    joined front before value behind (link_text f) (four sum) is_text
    ∙ ap (λ (n : ℕ). (front ++ link_text f) ++ four n) (is_sum ∙ ap checksum (summed_over front before value behind (link_text f) is_text))
    ∙ ap (λ (t : List ℕ). summed (t ++ link_text f)) count
    )
