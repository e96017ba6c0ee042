use Rattle.std.proofs.Common.{◌∙◌, sym}
use Rattle.sp_cert.specs.Drafts.{column_of}
use Rattle.sp_cert.proofs.Growing.{share_none, share_test}
use Rattle.sp_cert.proofs.draft.Begun.next_rank.Goals as goal

pub rank_in-k-requires-clause-regular : goal.rank_in-k-requires-clause-regular
rank_in-k-requires-clause-regular c = record {
  partition = c.requires.partition.partition;
  total = c.requires.partition.total;
  regular = sym c.is_regular.ensures ∙ c.if-not-is_regular.false;
}

pub returns-then-not-is_regular : goal.returns-then-not-is_regular
returns-then-not-is_regular c =
    share_none c.args.header.now.version c.args.header.now.e (column_of c.args.header.now.degree c.args.self.now)
    c.args.nu.now (sym c.is_regular.ensures ∙ c.if-not-is_regular.true)

pub returns-then-is_next_share : goal.returns-then-is_next_share
returns-then-is_next_share c = (
  sym (share_test c.args.header.now.version c.args.header.now.e c.rank_in-k.result c.args.self.now.rank
      (column_of c.args.header.now.degree c.args.self.now) c.args.nu.now
      (sym c.is_regular.ensures ∙ c.if-not-is_regular.false) c.rank_in-k.ensures c.requires.begun.rank)
      ∙ sym c.is_next_share.ensures ∙ c.if-is_next_share.true,
  c.rank_in-k.ensures,
)

pub returns-else-is_next_share : goal.returns-else-is_next_share
returns-else-is_next_share c =
    sym (share_test c.args.header.now.version c.args.header.now.e c.rank_in-k.result c.args.self.now.rank
    (column_of c.args.header.now.degree c.args.self.now) c.args.nu.now
    (sym c.is_regular.ensures ∙ c.if-not-is_regular.false) c.rank_in-k.ensures c.requires.begun.rank)
    ∙ sym c.is_next_share.ensures ∙ c.if-is_next_share.false
