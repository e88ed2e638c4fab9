use Rattle.std.proofs.Common.{ℕ, List, [], ◌∙◌, ap, map, Bor, Err, Ok, sym, arith}
use Rattle.std.proofs.lemmas.Result.{err_from_is_err_and}
use Rattle.memc_proto.specs.Words.{key_word}
use Rattle.memc_proto.specs.declared.field.Fault.{Fault}
use Rattle.memc_proto.proofs.Keys.{keys-step, keys-done, keys-fault, word_at, length-words}
use Rattle.memc_proto.proofs.read_line.read_keys.Goals as goal

pub returns-in_err-read_key : goal.returns-in_err-read_key
returns-in_err-read_key c =
    let p = err_from_is_err_and c.from_residual-in_err-read_key.result c.from_residual-in_err-read_key.ensures.1 in
    let at = word_at c.args.words.now c.words.word-index (record { ref_ptr = (0, 0); now = [] }) c.words-test.true in
    keys-fault (map (λ (word : Bor (List ℕ)). word.now) c.args.words.now) c.words.word-index c.in_err-read_key.field-0.0
    _ (omega (arith, length-words c.args.words.now, c.words-test.true))
    (p.1 ∙ ap (λ (f : Fault). Err f) p.2)
    (rw at c.in_err-read_key.ensures)

pub words-preserved : goal.words-preserved
words-preserved c =
    let at = word_at c.args.words.now c.words.word-index (record { ref_ptr = (0, 0); now = [] }) c.words-test.true in
    let step = keys-step (map (λ (word : Bor (List ℕ)). word.now) c.args.words.now) c.words.keys.items
    c.words.word-index c.in_ok-read_key.field-0 (omega (arith, length-words c.args.words.now, c.words-test.true))
    c.words.invariant.keys c.words.invariant.right (ap key_word at ∙ c.in_ok-read_key.ensures) in
    record { keys = c.in_ok-push.ensures.items ∙ step.0; right = step.1 }

pub returns : goal.returns
returns c = keys-done (map (λ (word : Bor (List ℕ)). word.now) c.args.words.now) c.words.keys.items c.words.word-index
    (omega (arith, length-words c.args.words.now, c.words-test.false)) c.words.invariant.keys c.words.invariant.right
    ∙ ap (λ (ks : List (List ℕ)). Ok ks) (sym c.from.ensures)
