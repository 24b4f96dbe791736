pub mod OriginLaws
pub mod Origins
