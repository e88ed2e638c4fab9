use Rattle.std.proofs.Common.{◌≡◌, ◌++◌, length, take, drop, ap, ◌∙◌, arith}
use Rattle.std.proofs.Math.Seq.{take-append_seam}
use Rattle.page_map.specs.Spaces.{page_bytes}
use Rattle.page_map.proofs.Spaces.{bytes_read}
use Rattle.page_map.proofs.pages.Pages.range.Goals as goal

pub returns : goal.returns
returns c =
    let pages = c.args.self.now in
    let into = c.read_into.new.into in
    let rest = drop (length into) c.in_ok-bytes.bytes.items in
    let long : length into ≡ c.args.len = omega (arith, c.read_into.auto.into, c.deref_mut.ensures.len, c.in_ok-bytes.ensures.len) in
    let all : c.in_ok-bytes.bytes.len ≡ length into = omega (arith, c.read_into.auto.into, c.deref_mut.ensures.len) in
    let is : c.from.result ≡ into = c.from.ensures ∙ (ap (λ n. take n (into ++ rest)) all ∙ take-append_seam into rest) in
    let read = bytes_read pages c.args.at into (omega (arith, c.requires, long)) c.read_into.ensures in
    record { bytes = is ∙ (read ∙ ap (λ n. take n (drop c.args.at (page_bytes pages))) long); length = ap length is ∙ long }
