-- All definitions that a case computes with, under one name for an `unfolding` line.
-- Assumes nothing.
use Rattle.bits.specs.Bits.{pick}
use Rattle.reads.specs.Program.{bind, run, reads, ends}
use Rattle.descriptor.specs.Entry.{descriptor_type, decode_as}
use Rattle.attributes.specs.Attributes.{device_of, mair_nibble, stage2_bits, shareability_of, is_device, is_non_cacheable, reported, normal, mair_byte, stage2_codes, stage1_off_attributes, device_rank, cache_rank, share_rank, combine_memory}
use Rattle.descriptor.specs.Permission.{stage1_permits, stage2_permits}
use Rattle.capture.specs.Capture.{little, part, any_high, within, memory}
use Rattle.capture.specs.Sparse.{word_at, byte_at, image, descriptor_at, sparse}
use Rattle.layout.specs.Elf.{of_kind, headed, banks_from, follows, ascend, clear, apart, well_laid, is_core}
use Rattle.layout.specs.Layout.{layout}
use Rattle.walk.specs.Walk.{if_present, follow, walk, walk_from}
use Rattle.walk.specs.Checks.{unless, settled, permitted, give}
use Rattle.walk.specs.Stage2.{check2, translate2}
use Rattle.stages.specs.Stage1.{place1, check1, stage1_off, translate1}
use Rattle.stages.specs.Stages.{finish, access}
use Rattle.answers.specs.Answers.{answer, number, carries, number_of, carries_of}
use Rattle.settings.specs.Settings.{first_failing, settings, audit_settings}
use Rattle.level.specs.Granule.{tg0_granule, tg1_granule}
use Rattle.level.specs.Level.{coded_size, output_size, start1, start2, size_check, levels_below}
use Rattle.regime.specs.Roots.{root_of, root2, stage1, stage2}
use Rattle.answers.specs.Refusals.{refuse}
use Rattle.answers.specs.Question.{told, turned_away, ask_over, ask}
use Rattle.answers.specs.Entries.{answer_of, output_of}
use Rattle.batch.specs.Batch.{answered, batch_over, batch}
use Rattle.ledger.specs.Ledger.{count, ledger}
use Rattle.ledger.specs.Ledger.{ascii, digits, decimal, line}
use Rattle.ledger.specs.Line.{line_into}
use Rattle.lists.specs.Lists.{zip, all, leads, ascends, grant_fits, grant_before, table_fits, table_before, grants_formed, tables_formed, well_formed}
use Rattle.lists.specs.Search.{granted, touches, is_listed}
use Rattle.audit.specs.Audit.{or_else, each_entry, missing, examine_as, examine, audit_table, audit_listed, audit_from, audit_over, audit}

unfoldable pub opened : Unit {0}
unfolding pick bind run reads ends descriptor_type decode_as device_of mair_nibble stage2_bits shareability_of is_device is_non_cacheable reported normal mair_byte stage2_codes stage1_off_attributes device_rank cache_rank share_rank combine_memory stage1_permits stage2_permits little part any_high within memory of_kind headed banks_from follows ascend clear apart well_laid is_core layout word_at byte_at image descriptor_at sparse if_present follow walk walk_from unless settled permitted give check2 translate2 place1 check1 stage1_off translate1 finish access answer number carries number_of carries_of first_failing settings audit_settings tg0_granule tg1_granule coded_size output_size start1 start2 size_check levels_below root_of root2 stage1 stage2 refuse told turned_away ask_over ask answer_of output_of count ledger answered batch_over batch ascii digits decimal line line_into zip all leads ascends grant_fits grant_before table_fits table_before grants_formed tables_formed well_formed or_else granted touches is_listed each_entry missing examine_as examine audit_table audit_listed audit_from audit_over audit
opened = tt
