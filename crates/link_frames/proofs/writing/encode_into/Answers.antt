use Rattle.std.proofs.Common.{◌++◌, ◌∙◌, ap, List, ℕ}
use Rattle.crc32c.specs.Register.{checksum}
use Rattle.link_frames.proofs.Lengths.{frame_written}
use Rattle.link_frames.proofs.writing.encode_into.Goals as goal

pub returns-clause-written : goal.returns-clause-written
returns-clause-written c =
    let len = c.to_be_bytes-len.result in
    let before = c.in_ok-before.before.items in
    let value = c.carried_value-value.result.now in
    let behind = c.in_ok-behind.behind.items in
    let out = c.args.out.now.items in
    let is_sum =
    c.sum_of-sum.ensures
    ∙ ap (λ (t : List ℕ). checksum (((len ++ t) ++ value) ++ c.deref-4.result.now)) c.deref-3.ensures.value
    ∙ ap (λ (t : List ℕ). checksum (((len ++ before) ++ value) ++ t)) c.deref-4.ensures.value in
    let is_new =
    c.in_ok-append.ensures.written
    ∙ ap (λ (t : List ℕ). out ++ ((len ++ t) ++ (value ++ c.deref-6.result.now))) c.deref-5.ensures.value
    ∙ ap (λ (t : List ℕ). out ++ ((len ++ before) ++ (value ++ t))) (c.deref-6.ensures.value ∙ c.in_ok-put_four.ensures) in
    frame_written c.args.frame.now c.total.result c.sum_of-sum.result len before value behind out c.append.new.out.items
    c.to_be_bytes-len.ensures c.total.ensures c.in_ok-before.ensures c.carried_value-value.ensures
    c.in_ok-behind.ensures is_sum is_new
