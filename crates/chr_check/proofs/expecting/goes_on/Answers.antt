use Rattle.chr_tokens.specs.TokenView.{place_view}
use Rattle.chr_check.proofs.Standing.{end_goes_on_in}
use Rattle.chr_check.proofs.expecting.goes_on.Goals as goal

pub returns-in-Expected : goal.returns-in-Expected
returns-in-Expected g c at_end =
    let error = c.in-Some-error_of.error in
    let end = c.in-Some.end in
    end_goes_on_in c.args.language c.args.text.now error (place_view end) (rw c.in-Some.is at c.in_ok-end.ensures) (rw c.in-Some-error_of.is at c.error_of.ensures) c.in-Expected.is (c.is_at.ensures at_end)
