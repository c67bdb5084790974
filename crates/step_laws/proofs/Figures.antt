-- The starred figures, together: what the definitions give is what 01 says.
use mathlib.Core.List.{map}
use mathlib.Core.Path.{◌≡◌, refl}
use lib.Count.{count_leading_zeros}
use Rattle.integers.specs.Floor.{mod_z}
use Rattle.integers.specs.Wrap.{wrap}
use Rattle.integers.specs.Clamp.{clamp}
use Rattle.gte_arithmetic.specs.Checks.{or, flags, flag_word}
use Rattle.gte_arithmetic.specs.Values.{mac_of, ir_of, depth_of, screen_of, factor_of}
use Rattle.gte_division.specs.Division.{entry_of, refined, quotient, ratio_of}
use Rattle.gte_sums.specs.Sums.{row_of, product_of}
use Rattle.gte_line.specs.Line.{line_checks_at, line_of}
use Rattle.gte_perspective.specs.Projection.{far_of, vertex_checks, vertex_of}
use Rattle.gte_perspective.specs.Perspective.{exact_of, pair_of, screen_checks, on_screen}
use Rattle.gte_depth.specs.Depth.{winding_of, average_checks, average_of}
use Rattle.gte_sums.specs.Products.{squares_of}
use Rattle.gte_registers.specs.Registers.{kinds, read_of, reads, short, half, field, fields_of, leading_from, leading, pushed_xy, spread_fields, written, write_of}
use Rattle.gte_inputs.specs.Inputs.{matrix_of, vector_of, long_of, corner_of, inputs_of}
use Rattle.gte_perspective.specs.Vertices.{rotated}
use Rattle.gte_matrix.specs.SqrOp.{square_of}
use Rattle.gte.specs.Commands.{commands, leaves, outcome_of, command_of}
use Rattle.gte_results.specs.Effects.{stored, flagged, line_left}
use Rattle.gte_results.specs.VertexEffects.{pushed_z, pushed_vertex, vertex_kept, vertex_left}
use Rattle.gte_results.specs.AverageEffects.{winding_left, average_left}
use Rattle.byte_order.specs.Bytes.{word_at, bytes_of}
use Rattle.cpu_decode.specs.Decode.{specials, primaries, decode_of}
use Rattle.cpu_decode.specs.Owners.{owners, owner_of}
use Rattle.cpu_alu.specs.Alu.{sum_of}
use Rattle.memory.specs.Addresses.{mapped, in_pad, beyond_ram, segment_of, place_of}
use Rattle.memory.specs.Loads as M
use Rattle.cpu_decode.specs.Fields as F
use Rattle.cpu_execute.specs.Execute as I
use Rattle.cpu_state.specs.System as C
use Rattle.cpu_state.specs.Exceptions as X
use Rattle.cpu_effects.specs.Effects.{write_step}
use Rattle.cpu_effects.specs.Traps.{trap_step}
use Rattle.cpu_perform.specs.Perform.{perform_of}
use Rattle.cpu_step.specs.Step.{issue_of, step_of}
use Rattle.step_laws.specs.Figures.{Figure, figures}

pub bench_figures : map (λ (f : Figure). f.got) figures ≡ map (λ (f : Figure). f.said) figures
unfolding figures mod_z wrap clamp or flags flag_word mac_of ir_of depth_of screen_of factor_of entry_of refined quotient ratio_of count_leading_zeros row_of product_of line_checks_at line_of exact_of far_of pair_of screen_checks on_screen vertex_checks vertex_of winding_of average_checks average_of squares_of kinds read_of reads short half field fields_of leading_from leading pushed_xy spread_fields written write_of matrix_of vector_of long_of corner_of inputs_of rotated square_of commands leaves outcome_of command_of stored flagged pushed_z line_left pushed_vertex vertex_kept vertex_left winding_left average_left word_at bytes_of specials primaries decode_of owners owner_of sum_of mapped in_pad beyond_ram segment_of place_of M.read_of F.fields_of I.execute_of C.usable_of X.raised_system X.vector_of X.raised_of write_step trap_step perform_of issue_of step_of
bench_figures = refl
