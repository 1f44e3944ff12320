-- Nothing is counted yet.
use Rattle.chr_tokens.proofs.Comments.{from_start}
use Rattle.chr_tokens.proofs.runs.comment_len.Goals as goal

pub loop-i-init : goal.loop-i-init
loop-i-init c = from_start c.args.text.now
